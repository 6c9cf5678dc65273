-- What is written page after page.
use Rattle.std.proofs.Common.{◌≡◌, ℕ, ◌+◌, ◌-◌, ◌*◌, ◌/◌, ◌%◌, ◌<◌, ◌≤◌, filter, List, [], ◌++◌, length, take, drop}
use Rattle.std.proofs.Common.{map, Option, Some, Result, Ok, Err, true≢false, refl, sym, ap, ap₂, ◌∙◌, subst, arith}
use Rattle.std.specs.Prelude.{◌==◌, min, IfOk}
use Rattle.std.specs.List.{flat_map}
use Rattle.std.specs.Result.{IsErr}
use Rattle.std.proofs.lemmas.Grind.{flat_map-append, div_ceil_times}
use Rattle.std.proofs.lemmas.List.{append_assoc, append-nil, length-append, length-map, drop-map, take_all, take-map}
use Rattle.std.proofs.lemmas.List.Elements.{filter_map-append}
use Rattle.std.proofs.lemmas.List.Folds.{flat_map-map}
use Rattle.std.proofs.lemmas.List.Sums.{length-filter}
use Rattle.std.proofs.lemmas.Result.{IfOk-weaker}
use Rattle.std.proofs.Math.Seq.{take-add}
use Rattle.std.specs.Io.KnownBytes.{Appends}
use Rattle.sqlite_trees.specs.declared.store.Store.{Ghosts}
use Rattle.sqlite.specs.declared.transaction.Transaction.{Transaction}
use Rattle.sqlite.specs.Effect.{Database}
use Rattle.channel_plan.specs.declared.plan.PlanRow.{PlanRow}
use Rattle.vault_core.specs.declared.tape.Tape.{Tape}
use Rattle.vault_core.specs.Rules.{slots_of}
use Rattle.channel_view_model.specs.declared.table.Table.{Table}
use Rattle.channel_view_model.specs.declared.table.Table.TheVariants.{Vault, Clips, Offers, Lent, Days}
use Rattle.channel_view_model.specs.declared.view.View.{View}
use Rattle.channel_view_model.specs.Tables.{of_channel, rows_of}
use Rattle.channel_view_model.specs.TableText.{table_text, text_seen}
use Rattle.channel_view_model.specs.Centre.{plan_of, view_at}
use Rattle.station_tables_records.specs.Inside.{Looks}
use Rattle.report_texts.specs.Output.{AppendsPart}
use Rattle.report_texts.proofs.PartLemmas.{nothing_yet, whole_behind, part_behind}
use Rattle.station_tables_statements.specs.Numbered.{page_of}
use Rattle.station_tables_statements.specs.Rows.{HoldsSet, rows_of_tables}
use Rattle.station_tables_reading.proofs.ThenLemmas.{rows_then}
use Rattle.station_tables_reading.specs.Lines.{WhileCleanSeen, Written, count_of, end_of, joined, lines_of, shelved_of}

-- how many rows of the table are the channel's
pub own_count : {A E : Type 0} (ch : ℕ) (table : List (ℕ × A)) (r : Result ℕ E) (count : ℕ)
    → count ≡ length (rows_of ch table) → IfOk r (λ n. n ≡ (of_channel ch table).count) → IfOk r (λ n. n ≡ count)
own_count {A} ch table r count all =
    IfOk-weaker r _ _
    (λ n is. omega (
      arith,
      is,
      all,
      length-filter (λ (row : ℕ × A). row.0 == ch) table,
      length-map
          (filter (λ (row : ℕ × A). row.0 == ch) table) (λ (row : ℕ × A). row.1),
    ))

-- so many pages have room for them
pages_fit : (count pages : ℕ) → pages ≡ count / 64 + min 1 (count % 64) → count ≤ pages * 64
pages_fit count pages rounded = subst (λ n. count ≤ n * 64) (sym rounded) (div_ceil_times count 64 (omega arith)).0

-- a whole is a beginning of itself
pub whole_part : (a b : Option (List ℕ)) (bytes : List ℕ) → Appends a b bytes → AppendsPart a b bytes
whole_part a b bytes h = (length bytes, subst (Appends a b) (sym (take_all (length bytes) bytes (omega arith))) h)

-- what is written behind a front
pub written_behind : {X E : Type 0} (r : Result X E) (a b c : Option (List ℕ)) (front part : List ℕ) → Appends a b front
    → Written b c r part → Written a c r (front ++ part)
written_behind (Ok x) a b c front part h k = whole_behind a b c front part h k
written_behind (Err e) a b c front part h k =
    subst (λ l. AppendsPart a c (front ++ l)) (append-nil part) (part_behind a b c front part [] h k)

-- of a failure
pub begun : {X E : Type 0} (r : Result X E) (a b : Option (List ℕ)) (bytes : List ℕ) → IsErr r → AppendsPart a b bytes
    → Written a b r bytes
begun (Ok x) a b bytes is h = absurd (true≢false (sym is))
begun (Err e) a b bytes is h = h

-- what was written of the rows of a page
pub page_said : {A X E : Type 0} (t : Table) (v : View) (f : A → List ℕ) (rows : List A) → lines_of t v ≡ map f rows
    → (p : ℕ) (items : List A) → items ≡ page_of p rows
    → (a b : Option (List ℕ)) (r : Result X E) → Written a b r (flat_map f items)
    → Written a b r (joined (page_of p (lines_of t v)))
page_said t v f rows lines p items is a b r =
    let one : flat_map f items ≡ joined (map f (page_of p rows)) =
    ap (flat_map f) is ∙ sym (flat_map-map (λ line. line) f (page_of p rows)) in
    let page : map f (page_of p rows) ≡ page_of p (map f rows) =
    sym (take-map f 64 (drop (p * 64) rows)) ∙ ap (take 64) (sym (drop-map f (p * 64) rows)) in
    subst (Written a b r) (one ∙ ap joined (page ∙ ap (page_of p) (sym lines)))

module _ {A : Type 0} (rows : List A) (p : ℕ) where
  -- the pages in front, and then this one
  pub next_page : take ((p + 1) * 64) rows ≡ take (p * 64) rows ++ page_of p rows
  next_page =
      let count : (p + 1) * 64 ≡ p * 64 + 64 = omega arith in
      ap (λ n. take n rows) count ∙ take-add (p * 64) 64 rows

  -- and then the others
  pages_behind : (pages : ℕ) → p < pages
      → take (pages * 64) rows ≡ take ((p + 1) * 64) rows ++ take ((pages - (p + 1)) * 64) (drop ((p + 1) * 64) rows)
  pages_behind pages lt =
      let count : pages * 64 ≡ (p + 1) * 64 + (pages - (p + 1)) * 64 = omega arith in
      ap (λ n. take n rows) count ∙ take-add ((p + 1) * 64) ((pages - (p + 1)) * 64) rows

module _ (rows : List (List ℕ)) (p : ℕ) (a b c : Option (List ℕ)) (before : Appends a b (joined (take (p * 64) rows)))
  where
    lines_to : joined (take ((p + 1) * 64) rows) ≡ joined (take (p * 64) rows) ++ joined (page_of p rows)
    lines_to = ap joined (next_page rows p) ∙ flat_map-append (λ line. line) (take (p * 64) rows) (page_of p rows)

    page_written : Appends b c (joined (page_of p rows)) → Appends a c (joined (take ((p + 1) * 64) rows))
    page_written page =
        subst (Appends a c) (sym lines_to)
        (whole_behind a b c (joined (take (p * 64) rows)) (joined (page_of p rows)) before page)

    page_begun : (pages : ℕ) → p < pages → AppendsPart b c (joined (page_of p rows))
        → AppendsPart a c (joined (take (pages * 64) rows))
    page_begun pages lt page =
        let others = take ((pages - (p + 1)) * 64) (drop ((p + 1) * 64) rows) in
        let all : joined (take (pages * 64) rows)
        ≡ joined (take (p * 64) rows) ++ (joined (page_of p rows) ++ joined others) =
        ap joined (pages_behind rows p pages lt) ∙ flat_map-append (λ line. line) (take ((p + 1) * 64) rows) others
        ∙ ap (λ l. l ++ joined others) lines_to
        ∙ append_assoc (joined (take (p * 64) rows)) (joined (page_of p rows)) (joined others) in
        subst (AppendsPart a c) (sym all)
        (part_behind a b c (joined (take (p * 64) rows)) (joined (page_of p rows)) (joined others) before page)

-- ---- the tables

-- how many tapes stand in a slot, page after page
shelved_add : (t : Table) (xs ys : List Tape) → shelved_of t (xs ++ ys) ≡ shelved_of t xs + shelved_of t ys
shelved_add Vault xs ys =
    ap length (filter_map-append (λ (t : Tape). t.slot) xs ys) ∙ length-append (slots_of xs) (slots_of ys)
shelved_add Clips xs ys = refl
shelved_add Offers xs ys = refl
shelved_add Lent xs ys = refl
shelved_add Days xs ys = refl

pub next_shelved : (t : Table) (tapes : List Tape) (p so_far more : ℕ) → so_far ≡ shelved_of t (take (p * 64) tapes)
    → more ≡ shelved_of t (page_of p tapes) → so_far + more ≡ shelved_of t (take ((p + 1) * 64) tapes)
next_shelved t tapes p so_far more before page =
    ap₂ ◌+◌ before page
    ∙ sym (ap (shelved_of t) (next_page tapes p) ∙ shelved_add t (take (p * 64) tapes) (page_of p tapes))

-- the pages have all of them
all_shelved : (t : Table) (v : View) (n : ℕ) → count_of t v ≤ n
    → shelved_of t (take n v.own.tapes) ≡ shelved_of t v.own.tapes
all_shelved Vault v n fit = ap (shelved_of Vault) (take_all n v.own.tapes fit)
all_shelved Clips v n fit = refl
all_shelved Offers v n fit = refl
all_shelved Lent v n fit = refl
all_shelved Days v n fit = refl

counts_lines : (t : Table) (v : View) → length (lines_of t v) ≡ count_of t v
counts_lines Vault v = length-map _ _
counts_lines Clips v = length-map _ _
counts_lines Offers v = length-map _ _
counts_lines Lent v = refl
counts_lines Days v = refl

-- the lines and what stands behind them are the table
text_is : (t : Table) (v : View) → joined (lines_of t v) ++ end_of t v ≡ table_text t v
unfolding text_seen
text_is Vault v = ap (λ l. l ++ end_of Vault v) (flat_map-map _ _ v.own.tapes)
text_is Clips v = ap (λ l. l ++ end_of Clips v) (flat_map-map _ _ v.own.clips)
text_is Offers v = ap (λ l. l ++ end_of Offers v) (flat_map-map _ _ v.own.offers)
text_is Lent v = refl
text_is Days v = refl

module _ (t : Table) (v : View) (count pages : ℕ) (rounded : pages ≡ count / 64 + min 1 (count % 64))
    (counted : count ≡ count_of t v) where
  fit : count_of t v ≤ pages * 64
  fit = subst (λ n. n ≤ pages * 64) counted (pages_fit count pages rounded)

  pub shelved_is : (shelved : ℕ) → shelved ≡ shelved_of t (take (pages * 64) v.own.tapes)
      → shelved ≡ shelved_of t v.own.tapes
  shelved_is shelved found = found ∙ all_shelved t v (pages * 64) fit

  all_lines : joined (take (pages * 64) (lines_of t v)) ≡ joined (lines_of t v)
  all_lines = ap joined (take_all (pages * 64) (lines_of t v) (omega (arith, fit, counts_lines t v)))

  pub part_of_table : (a b : Option (List ℕ)) → AppendsPart a b (joined (take (pages * 64) (lines_of t v)))
      → AppendsPart a b (table_text t v)
  part_of_table a b part =
      subst (AppendsPart a b) (ap (λ l. l ++ end_of t v) all_lines ∙ text_is t v)
      (part_behind a a b [] (joined (take (pages * 64) (lines_of t v))) (end_of t v) (nothing_yet a) part)

  pub table_written : {X E : Type 0} (r : Result X E) (a b c : Option (List ℕ))
      → Appends a b (joined (take (pages * 64) (lines_of t v))) → Written b c r (end_of t v)
      → Written a c r (table_text t v)
  table_written r a b c lines last =
      subst (Written a c r) (ap (λ l. l ++ end_of t v) all_lines ∙ text_is t v)
      (written_behind r a b c (joined (take (pages * 64) (lines_of t v))) (end_of t v) lines last)

-- ---- one call after another

-- what is said of what a channel sees, together with what was said before it
module _ {S : Type 0} (g : Ghosts S) {X Y E F : Type 0} (a b c : Transaction S) (x : X) (r : Result Y F)
    (one : Looks {X = X} {E = E} g a b (Ok x)) (two : Looks g b c r) (ch : ℕ) (plan : PlanRow) where
  pub seen_then : (P Q R : View → Type 0) → ((v : View) → P v → Q v → R v) → WhileCleanSeen g a b ch plan P
      → WhileCleanSeen g b c ch plan Q → WhileCleanSeen g a c ch plan R
  seen_then P Q R joins =
      rows_then g a b c x r one two (Kept P) (Kept Q) (Kept R)
      (λ db before now holds there. joins (view_at ch (rows_of_tables db.trees) plan) (before holds there)
      (now holds there))
    where
      Kept : (View → Type 0) → Database → Type 0
      Kept P db =
          HoldsSet (rows_of_tables db.trees) db → Some plan ≡ plan_of ch (rows_of_tables db.trees)
          → P (view_at ch (rows_of_tables db.trees) plan)

  pub shelved_then : (t : Table) (p so_far more : ℕ)
      → WhileCleanSeen g a b ch plan (λ v. so_far ≡ shelved_of t (take (p * 64) v.own.tapes))
      → WhileCleanSeen g b c ch plan (λ v. more ≡ shelved_of t (page_of p v.own.tapes))
      → WhileCleanSeen g a c ch plan (λ v. so_far + more ≡ shelved_of t (take ((p + 1) * 64) v.own.tapes))
  shelved_then t p so_far more =
      seen_then (λ v. so_far ≡ shelved_of t (take (p * 64) v.own.tapes))
      (λ v. more ≡ shelved_of t (page_of p v.own.tapes))
      (λ v. so_far + more ≡ shelved_of t (take ((p + 1) * 64) v.own.tapes))
      (λ v. next_shelved t v.own.tapes p so_far more)

  module _ (t : Table) (p : ℕ) (start mid end : Option (List ℕ)) where
    abbrev LinesTo : ℕ → View → Type 0
    LinesTo n v = Appends start mid (joined (take (n * 64) (lines_of t v)))

    -- the lines of the pages in front, and then of this one
    pub lines_written : WhileCleanSeen g a b ch plan (LinesTo p)
        → WhileCleanSeen g b c ch plan (λ v. Appends mid end (joined (page_of p (lines_of t v))))
        → WhileCleanSeen g a c ch plan (λ v. Appends start end (joined (take ((p + 1) * 64) (lines_of t v))))
    lines_written =
        seen_then (LinesTo p) (λ v. Appends mid end (joined (page_of p (lines_of t v))))
        (λ v. Appends start end (joined (take ((p + 1) * 64) (lines_of t v))))
        (λ v. page_written (lines_of t v) p start mid end)

    pub lines_begun : (pages : ℕ) → p < pages → WhileCleanSeen g a b ch plan (LinesTo p)
        → WhileCleanSeen g b c ch plan (λ v. AppendsPart mid end (joined (page_of p (lines_of t v))))
        → WhileCleanSeen g a c ch plan (λ v. AppendsPart start end (joined (take (pages * 64) (lines_of t v))))
    lines_begun pages lt =
        seen_then (LinesTo p) (λ v. AppendsPart mid end (joined (page_of p (lines_of t v))))
        (λ v. AppendsPart start end (joined (take (pages * 64) (lines_of t v))))
        (λ v before. page_begun (lines_of t v) p start mid end before pages lt)
