-- How the records of a text of CSV follow one another.
use Rattle.std.proofs.Common.{◌≡◌, ◌∙◌, ℕ, suc, ◌+◌, ◌-◌, ◌<◌, ◌≤◌, List, [], ◌∷◌, ◌++◌, Bool, true, false, Option}
use Rattle.std.proofs.Common.{Some, None, Result, Ok, Err, length, refl, sym, ap, subst, arith, append_assoc}
use Rattle.std.specs.Prelude.{◌==◌, if◌then◌else◌}
use Rattle.std.proofs.lemmas.Bool.{false≢true}
use Rattle.std.proofs.lemmas.List.{append-nil}
use Rattle.std.proofs.lemmas.Grind.{common_steps}
use Rattle.csv.specs.Machine.{Read, after_end, ends_at_end, ends_with, field_after, fields_after, in_field, is_end}
use Rattle.csv.specs.Machine.{next_record, start_field, start_record, step}
use Rattle.csv.specs.Reading.{ReadRecord, Reached, default_config, is_bom, records, records_from, source_of, strip_bom}
use Rattle.csv.specs.declared.reader.Reader.{Reader}
use Rattle.csv.proofs.ReadFacts.{rows-more}
use Rattle.csv.specs.declared.parser.Action.{Action}
use Rattle.csv.specs.declared.parser.Action.TheVariants as act
use Rattle.csv.specs.declared.parser.State.{State}
use Rattle.csv.specs.declared.parser.State.TheVariants as st
use Rattle.csv.specs.declared.parser.Terminator.TheVariants as term
use Rattle.timecode.specs.declared.rates.Rate.{Rate}
use Rattle.channel_plan.specs.declared.refusal.Refusal.{Refusal}
use Rattle.asrun_match.specs.declared.aired.AiredRow.{AiredRow}
use Rattle.asrun_match.specs.Rows.{behind, go_on, row_of_record, rows_from}

-- behind a byte that ends a record no record has begun
abbrev Ends : State × Action → Type 0
Ends q = is_end q.1 ≡ true → ends_at_end q.0 ≡ false

either : (b : Bool) (x y : State × Action) → Ends x → Ends y → Ends (if b then x else y)
either true x y if_so if_not = if_so
either false x y if_so if_not = if_not

goes_on : (q : State × Action) → is_end q.1 ≡ false → Ends q
goes_on q not_end = λ e. absurd (false≢true (sym not_end ∙ e))

begins : (b : Bool) → ends_at_end (if b then st.AfterCr else st.StartRecord) ≡ false
begins true = refl
begins false = refl

field_ends : (c : ℕ) → Ends (in_field default_config c)
field_ends c =
    either (c == 44) (st.StartField, act.EndField)
    (if ends_with term.CRLF c then (after_end term.CRLF c, act.EndRecord) else (st.InField, act.Copy))
    (goes_on (st.StartField, act.EndField) refl)
    (either (ends_with term.CRLF c) (after_end term.CRLF c, act.EndRecord) (st.InField, act.Copy)
    (λ e. begins (c == 13)) (goes_on (st.InField, act.Copy) refl))

field_begins : (c : ℕ) → Ends (start_field default_config c)
field_begins c =
    either (c == 34) (st.InQuoted, act.Skip) (in_field default_config c) (goes_on (st.InQuoted, act.Skip) refl)
    (field_ends c)

record_begins : (c : ℕ) → Ends (start_record default_config c)
record_begins c =
    either (ends_with term.CRLF c) (st.StartRecord, act.Skip) (start_field default_config c)
    (goes_on (st.StartRecord, act.Skip) refl) (field_begins c)

step_ends : (s : State) (c : ℕ) → Ends (step default_config s c)
step_ends st.StartRecord c = record_begins c
step_ends st.StartField c = field_begins c
step_ends st.InField c = field_ends c
step_ends st.InQuoted c =
    either (c == 34) (st.AfterQuote, act.Skip) (st.InQuoted, act.Copy) (goes_on (st.AfterQuote, act.Skip) refl)
    (goes_on (st.InQuoted, act.Copy) refl)
step_ends st.InEscape c = goes_on (st.InQuoted, act.Copy) refl
step_ends st.AfterQuote c =
    either (c == 34) (st.InQuoted, act.Copy) (in_field default_config c) (goes_on (st.InQuoted, act.Copy) refl)
    (field_ends c)
step_ends st.InComment c =
    either (c == 10) (st.StartRecord, act.Skip) (st.InComment, act.Skip) (goes_on (st.StartRecord, act.Skip) refl)
    (goes_on (st.InComment, act.Skip) refl)
step_ends st.AfterCr c =
    either (c == 10) (st.StartRecord, act.Skip) (start_record default_config c)
    (goes_on (st.StartRecord, act.Skip) refl) (record_begins c)

-- A record that was read: behind it no record has begun, and its bytes are taken; where none had begun before it, there
-- are some.
record Takes (s : State) (xs : List ℕ) (p : Read) : Type 0 where
  between : ends_at_end p.1 ≡ false
  most : length p.2 ≤ length xs
  some : ends_at_end s ≡ false → length p.2 < length xs

the_end : (s : State) (last p : Read) (b : Bool) → ends_at_end s ≡ b → last.1 ≡ st.StartRecord → last.2 ≡ []
    → (if b then Some last else None) ≡ Some p → Takes s [] p
the_end s last p true is start nothing e =
    let same : last ≡ p = cc e in
    subst (Takes s []) same
    (record {
      between = ap ends_at_end start;
      most = omega (arith, ap length nothing);
      some =
          λ not_begun. absurd (false≢true (sym not_begun ∙ is));
    })
the_end s last p false is start nothing e = cc e

a_byte : (s t : State) (c : ℕ) (rest : List ℕ) (here p : Read) (more : Option Read) (b : Bool) → here.2 ≡ rest
    → (b ≡ true → ends_at_end here.1 ≡ false)
    → (more ≡ Some p → Takes t rest p) → (if b then Some here else more) ≡ Some p → Takes s (c ∷ rest) p
a_byte s t c rest here p more true is ends go e =
    let same : here ≡ p = cc e in
    let left = ap length is in
    subst (Takes s (c ∷ rest)) same
    (record { between = ends refl; most = omega (arith, left); some = λ not_begun. omega (arith, left) })
a_byte s t c rest here p more false is ends go e =
    let later = go e in
    record { between = later.between; most = omega (arith, later.most); some = λ not_begun. omega (arith, later.most) }

takes : (s : State) (fields : List (List ℕ)) (field xs : List ℕ) (p : Read)
    → next_record default_config s fields field xs ≡ Some p → Takes s xs p
unfolding next_record
takes s fields field [] p e = the_end s _ p (ends_at_end s) refl refl refl e
takes s fields field (c ∷ rest) p e =
    a_byte s (step default_config s c).0 c rest _ p _ (is_end (step default_config s c).1) refl (step_ends s c)
    (takes (step default_config s c).0 (fields_after (step default_config s c).1 fields field)
    (field_after (step default_config s c).1 c field) rest p) e

read_is : (p : Read) (fields : List (List ℕ)) (s : State) (z : List ℕ) → fields ≡ p.0 → p.1 ≡ s → p.2 ≡ z
    → p ≡ (fields, s, z)
read_is p fields s z first state rest = λ i. (sym first i, state i, rest i)

-- what a read of a record tells of the bytes that are left
pub next_of : {R : Type 0} (rem : R → Option (List ℕ)) (a b : Reader R) (fields : List (List ℕ)) (y : List ℕ)
    → a.config ≡ default_config → source_of rem a ≡ Some y
    → ReadRecord rem a b true fields
    → (z : List ℕ) × (source_of rem b ≡ Some z)
    × (next_record default_config a.state [] [] y ≡ Some (fields, b.state, z))
unfolding Reached
next_of rem a b fields y config source read =
    let m = rows-more rem a b fields default_config a.state y y [] config source (refl, refl) read in
    (m.0, m.1, m.2.1 ∙ ap Some (read_is m.2.0 fields b.state m.0 m.2.2 m.2.3.0 m.2.3.1))

-- what is left of a text's records is one, and those behind it; or nothing
one_more : (n : ℕ) (s : State) (y : List ℕ) (p : Read) → next_record default_config s [] [] y ≡ Some p
    → records_from default_config (suc n) s y ≡ p.0 ∷ records_from default_config n p.1 p.2
unfolding records_from
one_more n s y p e = rw e refl

no_more : (n : ℕ) (s : State) (y : List ℕ) → next_record default_config s [] [] y ≡ None
    → records_from default_config (suc n) s y ≡ []
unfolding records_from
no_more n s y e = rw e refl

-- The rows of the records so far, and the state and the bytes behind them: with what is left they decide.
pub record IsLeft (rate : Rate) (start : ℕ) (text : List ℕ) (rows : List AiredRow) (s : State) (y : List ℕ) : Type 0
  where
    pub between : ends_at_end s ≡ false
    pub room : length rows + length y ≤ length text
    pub rest : behind rows
        (rows_from rate start (length rows + 1) (records_from default_config (length text + 1 - length rows) s y))
        ≡ rows_from rate start 1 (records default_config text)

behind_none : (more : Result (List AiredRow) Refusal) → behind [] more ≡ more
behind_none (Ok rows) = refl
behind_none (Err e) = refl

behind_more : (rows : List AiredRow) (row : AiredRow) (more : Result (List AiredRow) Refusal)
    → behind rows (behind (row ∷ []) more) ≡ behind (rows ++ row ∷ []) more
behind_more rows row (Ok others) = ap Ok (sym (append_assoc rows (row ∷ []) others))
behind_more rows row (Err e) = refl

pub at_start : (rate : Rate) (start : ℕ) (text : List ℕ) → IsLeft rate start text [] st.StartRecord text
at_start rate start text =
    let all : length text + 1 - 0 ≡ length text + 1 = omega arith in
    record {
      between = refl;
      room = omega arith;
      rest =
          ap (λ n. behind [] (rows_from rate start 1 (records_from default_config n st.StartRecord text))) all
          ∙ behind_none (rows_from rate start 1 (records default_config text));
    }

-- what a record that is read decides
taken : (rate : Rate) (start : ℕ) (text : List ℕ) (rows : List AiredRow) (s : State) (y : List ℕ) (p : Read)
    → IsLeft rate start text rows s y
    → next_record default_config s [] [] y ≡ Some p
    → behind rows
    (go_on (row_of_record rate start (length rows + 1) p.0)
    (λ row. behind (row ∷ [])
    (rows_from rate start (length rows + 1 + 1) (records_from default_config (length text - length rows) p.1 p.2))))
    ≡ rows_from rate start 1 (records default_config text)
taken rate start text rows s y p left next =
    let fuel : length text + 1 - length rows ≡ suc (length text - length rows) = omega (arith, left.room) in
    sym (ap (λ list. behind rows (rows_from rate start (length rows + 1) list))
    (ap (λ n. records_from default_config n s y) fuel ∙ one_more (length text - length rows) s y p next))
    ∙ left.rest

-- the row of a record is one row more
pub one_row : (rate : Rate) (start : ℕ) (text : List ℕ) (rows : List AiredRow) (row : AiredRow) (s : State) (y : List ℕ)
    (p : Read) → IsLeft rate start text rows s y
    → next_record default_config s [] [] y ≡ Some p → row_of_record rate start (length rows + 1) p.0 ≡ Ok row
    → IsLeft rate start text (rows ++ row ∷ []) p.1 p.2
one_row rate start text rows row s y p left next is =
    let gone = takes s [] [] y p next in
    let more : length (rows ++ row ∷ []) ≡ length rows + 1 = grind (arith, common_steps) in
    let fuel : length text + 1 - length (rows ++ row ∷ []) ≡ length text - length rows = omega (arith, more) in
    record {
      between = gone.between;
      room = omega (arith, more, gone.some left.between, left.room);
      rest =
          ap (λ n. behind (rows ++ row ∷ [])
          (rows_from rate start (length (rows ++ row ∷ []) + 1) (records_from default_config n p.1 p.2))) fuel
          ∙ ap
          (λ n. behind (rows ++ row ∷ [])
          (rows_from rate start (n + 1) (records_from default_config (length text - length rows) p.1 p.2))) more
          ∙ sym
          (behind_more rows row
          (rows_from rate start (length rows + 1 + 1)
          (records_from default_config (length text - length rows) p.1 p.2)))
          ∙ sym
          (ap
          (λ r. behind rows
          (go_on r
          (λ row. behind (row ∷ [])
          (rows_from rate start (length rows + 1 + 1)
          (records_from default_config (length text - length rows) p.1 p.2))))) is)
          ∙ taken rate start text rows s y p left next;
    }

-- the refusal of a record is that of the text
pub one_refusal : (rate : Rate) (start : ℕ) (text : List ℕ) (rows : List AiredRow) (e : Refusal) (s : State)
    (y : List ℕ) (p : Read) → IsLeft rate start text rows s y
    → next_record default_config s [] [] y ≡ Some p → row_of_record rate start (length rows + 1) p.0 ≡ Err e
    → rows_from rate start 1 (records default_config text) ≡ Err e
one_refusal rate start text rows e s y p left next is =
    sym (sym
    (ap
    (λ r. behind rows
    (go_on r
    (λ row. behind (row ∷ [])
    (rows_from rate start (length rows + 1 + 1)
    (records_from default_config (length text - length rows) p.1 p.2))))) is)
    ∙ taken rate start text rows s y p left next)

-- at the end of the text the rows are those
pub all_taken : (rate : Rate) (start : ℕ) (text : List ℕ) (rows : List AiredRow) (s : State) (y : List ℕ)
    → IsLeft rate start text rows s y
    → next_record default_config s [] [] y ≡ None → rows_from rate start 1 (records default_config text) ≡ Ok rows
all_taken rate start text rows s y left next =
    let fuel : length text + 1 - length rows ≡ suc (length text - length rows) = omega (arith, left.room) in
    sym left.rest
    ∙ ap (λ list. behind rows (rows_from rate start (length rows + 1) list))
    (ap (λ n. records_from default_config n s y) fuel ∙ no_more (length text - length rows) s y next)
    ∙ ap Ok (append-nil rows)

-- there is room for the number of one row more
pub one_number : (rate : Rate) (start : ℕ) (text : List ℕ) (rows : List AiredRow) (s : State) (y : List ℕ) (p : Read)
    → IsLeft rate start text rows s y
    → next_record default_config s [] [] y ≡ Some p → length rows < length text
one_number rate start text rows s y p left next = omega (arith, left.room, (takes s [] [] y p next).some left.between)

-- a text without its byte order mark isn't longer
pub no_longer : (text : List ℕ) → length (strip_bom text) ≤ length text
unfolding strip_bom
no_longer [] = omega arith
no_longer (a ∷ []) = omega arith
no_longer (a ∷ b ∷ []) = omega arith
no_longer (a ∷ b ∷ c ∷ rest) = by (is_bom a b c)
  where
    by : (mark : Bool) → length (if mark then rest else a ∷ b ∷ c ∷ rest) ≤ length (a ∷ b ∷ c ∷ rest)
    by true = omega arith
    by false = omega arith
