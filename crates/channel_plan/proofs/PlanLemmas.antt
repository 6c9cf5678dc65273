-- A text and its fields.
use Rattle.std.proofs.Common.{◌≡◌, ℕ, ◌+◌, ◌-◌, ◌<◌, Bool, true, false, cond, List, [], ◌∷◌, length, get_or, take, drop}
use Rattle.std.proofs.Common.{take_all, suc, ◌≤◌, Some, None, refl, sym, ◌∙◌, ap, arith}
use Rattle.std.specs.Prelude.{Option, MatchOption, is_some, nat_lt, position}
use Rattle.std.specs.Borrow.{Bor}
use Rattle.std.specs.Prelude.{◌==◌, IsPermutation}
use Rattle.std.specs.List.{slice_split, position_or_len, list_any, list_all, AllByRecursion, IsDistinct}
use Rattle.std.proofs.lemmas.Bool.Decides.{nat_tests}
use Rattle.std.proofs.lemmas.List.{length-drop}
use Rattle.std.proofs.lemmas.List.Sums.{fails_before_first, AllPass-from_list_all, list_all-from_AllPass}
use Rattle.std.specs.List.Sorted.{IsNonDecreasingBy}
use Rattle.std.proofs.lemmas.List.Sorted.{All-permutation, IsNonDecreasingBy-drop}
use Rattle.std.proofs.lemmas.Map.Keys.{IsDistinct-IsPermutation}
use Rattle.std.proofs.lemmas.List.Splits.{length-slice_split, slice_split_first, slice_split_none}
use Rattle.channel_plan.specs.declared.plan.PlanRow.{PlanRow}
use Rattle.channel_plan.specs.Plan.{is_comma, is_plan_row, is_plan, is_plan_in_order}

-- a text has at least one field
pub some_field : (text : List ℕ) → slice_split is_comma text ≡ [] → ⊥
some_field text e =
    let h : length (slice_split is_comma text) ≡ 0 = ap length e in omega (arith, h, length-slice_split is_comma text)

-- the first field ends at the first comma
pub first_field_at : (text : List ℕ) (at : ℕ) → Some at ≡ position is_comma text
    → slice_split is_comma text
    ≡ take at text ∷ slice_split is_comma (take (length text - (at + 1)) (drop (at + 1) text))
first_field_at text at found = by (nat_lt (position_or_len is_comma text) (length text)) refl found
  where
    by : (b : Bool) → nat_lt (position_or_len is_comma text) (length text) ≡ b
        → Some at ≡ cond b (Some (position_or_len is_comma text)) None
        → slice_split is_comma text
        ≡ take at text ∷ slice_split is_comma (take (length text - (at + 1)) (drop (at + 1) text))
    by false e h = cc
    by true e h =
        let here : at ≡ position_or_len is_comma text = cc in
        let within : position_or_len is_comma text < length text = grind (arith, nat_tests, e) in
        let rest : take (length text - (at + 1)) (drop (at + 1) text) ≡ drop (at + 1) text =
        take_all _ _ (omega (arith, length-drop (at + 1) text)) in
        slice_split_first is_comma text 0 within
        ∙ ap (λ (n : ℕ). take n text ∷ slice_split is_comma (drop (n + 1) text)) (sym here)
        ∙ ap (λ (t : List ℕ). take at text ∷ slice_split is_comma t) (sym rest)

-- or is the whole text
pub first_field_whole : (text : List ℕ) → None ≡ position is_comma text → slice_split is_comma text ≡ text ∷ []
first_field_whole text none = by (nat_lt (position_or_len is_comma text) (length text)) refl none
  where
    by : (b : Bool) → nat_lt (position_or_len is_comma text) (length text) ≡ b
        → None ≡ cond b (Some (position_or_len is_comma text)) None → slice_split is_comma text ≡ text ∷ []
    by true e h = cc
    by false e h =
        slice_split_none is_comma text
        (λ k d lt. fails_before_first is_comma text k d (grind (arith, nat_tests, e, lt)))

-- a field and the fields of a text behind it are more than one field
pub more_fields : (text first : List ℕ) (rest : Option (Bor (List ℕ))) → is_some rest ≡ true
    → MatchOption rest (slice_split is_comma text ≡ first ∷ [])
    (λ r. slice_split is_comma text ≡ first ∷ slice_split is_comma r.now)
    → (d : List ℕ) → slice_split is_comma text ≡ d ∷ [] → ⊥
more_fields text first None there h d e = cc
more_fields text first (Some r) there h d e = let none : slice_split is_comma r.now ≡ [] = cc in some_field r.now none

-- a plan in another order is a plan
abbrev pub same_channel : PlanRow → PlanRow → Bool
same_channel p q = q.ch == p.ch

none-from_list_any : (p : PlanRow) (qs : List PlanRow) → list_any (λ q. q.ch == p.ch) qs ≡ false
    → AllByRecursion (λ q. same_channel p q ≡ false) qs
none-from_list_any p [] h = tt
none-from_list_any p (q ∷ qs) h = (grind (arith, h), none-from_list_any p qs (grind (arith, h)))

list_any-from_none : (p : PlanRow) (qs : List PlanRow) → AllByRecursion (λ q. same_channel p q ≡ false) qs
    → list_any (λ q. q.ch == p.ch) qs ≡ false
list_any-from_none p [] h = refl
list_any-from_none p (q ∷ qs) h =
    let first = h.0 in let rest = list_any-from_none p qs h.1 in grind (arith, first, rest)

rows_of-plan : (ps : List PlanRow) → is_plan ps ≡ true → list_all is_plan_row ps ≡ true
rows_of-plan [] h = refl
rows_of-plan (p ∷ ps) h = grind (arith, h, rows_of-plan ps)

distinct-from_plan : (ps : List PlanRow) → is_plan ps ≡ true → IsDistinct same_channel ps
unfolding IsDistinct
distinct-from_plan [] h = tt
distinct-from_plan (p ∷ ps) h = (none-from_list_any p ps (grind (arith, h)), distinct-from_plan ps (grind (arith, h)))

plan-from_rows : (ps : List PlanRow) → list_all is_plan_row ps ≡ true → IsDistinct same_channel ps → is_plan ps ≡ true
unfolding IsDistinct
plan-from_rows [] h d = refl
plan-from_rows (p ∷ ps) h d =
    let none = list_any-from_none p ps d.0 in
    let rest : is_plan ps ≡ true = plan-from_rows ps (grind (arith, h)) d.1 in
    grind (arith, h, none, rest)

flips : (p q : PlanRow) → same_channel p q ≡ same_channel q p
flips p q = grind (arith, nat_tests)

pub is_plan-IsPermutation : (ps qs : List PlanRow) → IsPermutation ps qs → is_plan ps ≡ true → is_plan qs ≡ true
is_plan-IsPermutation ps qs same h =
    plan-from_rows qs
    (list_all-from_AllPass is_plan_row qs
    (All-permutation (λ (p : PlanRow). is_plan_row p ≡ true) ps qs same
    (AllPass-from_list_all is_plan_row ps (rows_of-plan ps h))))
    (IsDistinct-IsPermutation same_channel flips ps qs same (distinct-from_plan ps h))

-- a plan whose channels don't fall is in order
all_behind : (p : PlanRow) (ps : List PlanRow) → ((k : ℕ) → k < length ps → p.ch ≤ (get_or ps k p).ch)
    → list_any (λ q. q.ch == p.ch) ps ≡ false
    → list_all (λ q. nat_lt p.ch q.ch) ps ≡ true
all_behind p [] rising none = refl
all_behind p (q ∷ qs) rising none =
    let first : p.ch ≤ q.ch = rising 0 (omega arith) in
    let rest : list_all (λ q. nat_lt p.ch q.ch) qs ≡ true =
    all_behind p qs (λ k lt. rising (suc k) (omega arith)) (grind (arith, none)) in
    grind (arith, nat_tests, none, first, rest)

pub in_order-from_plan : (ps : List PlanRow) → is_plan ps ≡ true → IsNonDecreasingBy (λ p. p.ch) ps
    → is_plan_in_order ps ≡ true
in_order-from_plan [] h rising = refl
in_order-from_plan (p ∷ ps) h rising =
    let behind = all_behind p ps (λ k lt. rising 0 (suc k) p (omega arith) (omega arith)) (grind (arith, h)) in
    let rest : is_plan_in_order ps ≡ true =
    in_order-from_plan ps (grind (arith, h)) (IsNonDecreasingBy-drop (λ p. p.ch) 1 (p ∷ ps) rising) in
    grind (arith, h, behind, rest)

-- and a plan in order is a plan
none_before : (p : PlanRow) (qs : List PlanRow) → list_all (λ q. nat_lt p.ch q.ch) qs ≡ true
    → list_any (λ q. q.ch == p.ch) qs ≡ false
none_before p [] h = refl
none_before p (q ∷ qs) h = grind (arith, nat_tests, h, none_before p qs)

pub plan-from_order : (ps : List PlanRow) → is_plan_in_order ps ≡ true → is_plan ps ≡ true
plan-from_order [] h = refl
plan-from_order (p ∷ ps) h = grind (arith, h, none_before p ps, plan-from_order ps)
