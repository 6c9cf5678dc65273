-- Calls that write, one after another.
use Rattle.std.proofs.Common.{◌≡◌, ℕ, zero, suc, ◌+◌, ◌<◌, List, [], ◌∷◌, length, take, get_or, ap, refl, subst, subst₂}
use Rattle.std.proofs.Common.{Ok, sym, ◌∙◌, arith}
use Rattle.sqlite.specs.declared.error.Error.{Error}
use Rattle.asrun_match.specs.declared.aired.AiredRow.{AiredRow}
use Rattle.sqlite_keyed.specs.Lists.{insert_sorted}
use Rattle.station_tables_records.specs.declared.aired_rows.AiredLine.{AiredLine}
use Rattle.station_tables_records.specs.MadeAirings.{AiredSet, line_cmp, row_of_line, LacksLine}
use Rattle.station_tables_records.proofs.AiredTurns.{with_lines, AreNewLines}
use Rattle.station_tables_records.specs.TwoTables.{ChangesBoth, IsAtBoth}
use Rattle.station_tables_records.specs.TablePairs.{aired_tables, on_lines}
use Rattle.station_tables_records.proofs.TwoTableLemmas.{both_then, both_still}
use Rattle.station_tables_statements.specs.AiredCalls.{airings_in, MakesAirings, LacksLineNow}
use Rattle.sqlite_trees.specs.declared.store.Store.{Ghosts}
use Rattle.sqlite.specs.declared.transaction.Transaction.{Transaction}
use Rattle.sqlite.specs.State.{HasCleanDisk}
use Rattle.station_tables_records.proofs.InsideLemmas.{writes_then, writes_on, writes_none}
use Rattle.station_tables_records.specs.Inside.{inside, Writes}

-- so many of these rows were added as lines of a batch that had none
pub record HasLines {S : Type 0} (g : Ghosts S) (c n k : ℕ) (rows : List AiredRow) (old : Transaction S) (i line : ℕ)
    (tx : Transaction S) : Type 0 where
  pub count : line ≡ i
  pub writes : Writes {X = Unit {0}} {E = Error} g old tx (Ok tt)
  pub made : AreNewLines c n k 1 rows (airings_in (inside g old)).lines → IsAtBoth aired_tables (inside g old)
      → HasCleanDisk (inside g tx)
      → ChangesBoth aired_tables (on_lines (with_lines c n k 1 (take i rows))) (inside g old) (inside g tx)

-- none is added at first
pub no_lines_yet : {S : Type 0} (g : Ghosts S) (c n k : ℕ) (rows : List AiredRow) (old : Transaction S)
    → HasLines g c n k rows old 0 0 old
no_lines_yet g c n k rows old =
    record { count = refl; writes = writes_none g old tt; made = λ new at clean. both_still (inside g old) at }

module _ (c n k : ℕ) where
  abbrev with_line : ℕ → AiredRow → List (ℕ × AiredLine) → List (ℕ × AiredLine)
  with_line l row lines = insert_sorted line_cmp (row_of_line c n k l row) lines

  -- the next line is new
  next_lacks : (l : ℕ) (rows : List AiredRow) (lines : List (ℕ × AiredLine)) (i : ℕ) → i < length rows
      → AreNewLines c n k l rows lines → LacksLine c n k (l + i) (with_lines c n k l (take i rows) lines)
  next_lacks l [] lines i lt new = absurd (omega (arith, lt))
  next_lacks l (row ∷ rows) lines zero lt new =
      let same : l ≡ l + 0 = omega arith in subst (λ m. LacksLine c n k m lines) same new.0
  next_lacks l (row ∷ rows) lines (suc i) lt new =
      let same : (l + 1) + i ≡ l + suc i = omega arith in
      let less : i < length rows = omega (arith, lt) in
      subst (λ m. LacksLine c n k m (with_lines c n k (l + 1) (take i rows) (with_line l row lines))) same
      (next_lacks (l + 1) rows (with_line l row lines) i less new.1)

  -- and comes last
  next_line : (l : ℕ) (rows : List AiredRow) (lines : List (ℕ × AiredLine)) (i : ℕ) (d : AiredRow) → i < length rows
      → with_lines c n k l (take (suc i) rows) lines
      ≡ with_line (l + i) (get_or rows i d) (with_lines c n k l (take i rows) lines)
  next_line l [] lines i d lt = absurd (omega (arith, lt))
  next_line l (row ∷ rows) lines zero d lt = let same : l ≡ l + 0 = omega arith in ap (λ m. with_line m row lines) same
  next_line l (row ∷ rows) lines (suc i) d lt =
      let same : (l + 1) + i ≡ l + suc i = omega arith in
      let less : i < length rows = omega (arith, lt) in
      next_line (l + 1) rows (with_line l row lines) i d less
      ∙ ap (λ m. with_line m (get_or rows i d) (with_lines c n k (l + 1) (take i rows) (with_line l row lines))) same

-- one line more
module _ {S : Type 0} (g : Ghosts S) (c n k : ℕ) (rows : List AiredRow) (old a b : Transaction S) (i line : ℕ) where
  pub one_line_more : HasLines g c n k rows old i line a → (next : ℕ) → next ≡ line + 1 → i < length rows
      → (row d : AiredRow) → row ≡ get_or rows i d → (count : ℕ) → Writes {X = ℕ} {E = Error} g a b (Ok count)
      → (LacksLineNow c n k next (inside g a)
      → MakesAirings {X = ℕ} {E = Error} (on_lines (insert_sorted line_cmp (row_of_line c n k next row))) g a b
      (Ok count))
      → HasLines g c n k rows old (suc i) next b
  one_line_more has next next_is lt row d row_is count writes makes = record {
    count = counted;
    writes = writes_on g old b count tt (writes_then g old a b tt (Ok count) has.writes writes);
    made = made;
  }
    where
      counted : next ≡ suc i
      counted = let before = has.count in omega (arith, next_is, before)

      place : next ≡ 1 + i
      place = let before = has.count in omega (arith, next_is, before)

      made : AreNewLines c n k 1 rows (airings_in (inside g old)).lines → IsAtBoth aired_tables (inside g old)
          → HasCleanDisk (inside g b)
          → ChangesBoth aired_tables (on_lines (with_lines c n k 1 (take (suc i) rows))) (inside g old) (inside g b)
      made new at clean =
          let early : HasCleanDisk (inside g a) = omega (arith, writes.survives.clean, clean) in
          let before = has.made new at early in
          let first : AiredSet → AiredSet = on_lines (with_lines c n k 1 (take i rows)) in
          let more : AiredSet → AiredSet = on_lines (insert_sorted line_cmp (row_of_line c n k next row)) in
          let lines_are : (airings_in (inside g a)).lines
          ≡ with_lines c n k 1 (take i rows) (airings_in (inside g old)).lines =
          ap (λ (s : AiredSet). s.lines) before.rows_are in
          let lacks : LacksLine c n k next (airings_in (inside g a)).lines =
          subst₂ (λ m lines. LacksLine c n k m lines) (sym place) (sym lines_are)
          (next_lacks c n k 1 rows (airings_in (inside g old)).lines i lt new) in
          let one = makes (λ clean_now opened. lacks) (λ clean_now opened. before.tables) clean in
          let both : ◌≡◌ {A = AiredSet → AiredSet} (λ set. more (first set))
          (on_lines (with_lines c n k 1 (take (suc i) rows))) =
          λ j set. record set {
            lines =
                (ap (λ m. insert_sorted line_cmp (row_of_line c n k m row) (with_lines c n k 1 (take i rows) set.lines))
                place
                ∙ ap
                (λ r. insert_sorted line_cmp (row_of_line c n k (1 + i) r) (with_lines c n k 1 (take i rows) set.lines))
                row_is ∙ sym (next_line c n k 1 rows set.lines i d lt)) j;
          } in
          subst (λ f. ChangesBoth aired_tables f (inside g old) (inside g b)) both
          (both_then first more (inside g old) (inside g a) (inside g b) before one)
