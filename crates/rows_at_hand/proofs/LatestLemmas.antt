-- Days at hand, in the order in which they were asked for: their number, their rows, and what is known of them.
use Rattle.std.proofs.Common.{◌≡◌, ◌⊎◌, ℕ, zero, suc, ◌+◌, ◌<◌, ◌≤◌, List, [], ◌∷◌, ◌++◌, Bool, true, false, not, cond}
use Rattle.std.proofs.Common.{length, drop, take, get_or, refl, sym, subst, ◌∙◌, ap, inl, inr, arith}
use Rattle.std.specs.Prelude.{filter, nat_lt}
use Rattle.std.specs.List.{All, remove}
use Rattle.std.proofs.lemmas.Bool.Decides.{nat_tests}
use Rattle.std.proofs.lemmas.List.{length_push, drop-drop}
use Rattle.std.proofs.lemmas.List.Edits.{length-remove}
use Rattle.std.proofs.lemmas.List.Elements.{All-append, All-drop, All-get_or, All-head, All-push, All-tail, All-take}
use Rattle.std.proofs.lemmas.List.Filters.{length-filter_both, sum_by-filter_both}
use Rattle.std.proofs.lemmas.List.Sums.{sum_by_push, sum_by-remove, sum_by-take-drop}
use Rattle.channel_view_model.specs.Centre.{Centre}
use Rattle.rows_at_hand.specs.declared.known.KnownDay.{KnownDay}
use Rattle.rows_at_hand.specs.Known.{AreKnown, Inserts, IsAskedLast, IsKnown, has_room}
use Rattle.rows_at_hand.specs.Known.{most_days, most_rows, rows_at_hand, rows_in}

-- a day that was asked for last is known as before, and so are the others
pub asked_known : (rows : Centre) (place : ℕ) (days after : List KnownDay) → IsAskedLast place days after
    → AreKnown rows days → AreKnown rows after
asked_known rows place [] after asked known = absurd (omega (arith, asked.0))
asked_known rows place (k ∷ ks) after asked known =
    let days = k ∷ ks in
    subst (AreKnown rows) (sym (asked.1 k))
    (All-push (IsKnown rows) (remove days place) (get_or days place k)
    (All-append (IsKnown rows) (take place days) (drop (suc place) days)
    (All-take (IsKnown rows) place days known) (All-drop (IsKnown rows) (suc place) days known))
    (All-get_or (IsKnown rows) days place k asked.0 known))

-- they are as many, and have as many rows
pub asked_count : (place : ℕ) (days after : List KnownDay) → IsAskedLast place days after → length after ≡ length days
asked_count place [] after asked = absurd (omega (arith, asked.0))
asked_count place (k ∷ ks) after asked =
    let days = k ∷ ks in
    ap length (asked.1 k) ∙ length_push (remove days place) (get_or days place k) ∙ length-remove days place asked.0

pub asked_rows : (place : ℕ) (days after : List KnownDay) → IsAskedLast place days after
    → rows_at_hand after ≡ rows_at_hand days
asked_rows place [] after asked = absurd (omega (arith, asked.0))
asked_rows place (k ∷ ks) after asked =
    let days = k ∷ ks in
    ap rows_at_hand (asked.1 k) ∙ sum_by_push rows_in (remove days place) (get_or days place k)
    ∙ sum_by-remove rows_in days place k asked.0

-- a filter leaves no more
module _ (p : KnownDay → Bool) (days : List KnownDay) where
  pub filter_count : length (filter p days) ≤ length days
  filter_count = omega (arith, length-filter_both p (λ k. not (p k)) (λ k. refl) days)

  pub filter_rows : rows_at_hand (filter p days) ≤ rows_at_hand days
  filter_rows = omega (arith, sum_by-filter_both p (λ k. not (p k)) (λ k. refl) rows_in days)

-- what is left out anyway may be taken out before
pub filter-removed : {X : Type 0} (p : X → Bool) (xs : List X) (i : ℕ) (d : X) → i < length xs
    → p (get_or xs i d) ≡ false → filter p (remove xs i) ≡ filter p xs
filter-removed p [] i d within out = absurd (omega arith)
filter-removed p (x ∷ xs) zero d within out = grind (arith, out)
filter-removed p (x ∷ xs) (suc i) d within out =
    let rest = filter-removed p xs i d (omega arith) out in
    ap (λ ys. cond (p x) (x ∷ ys) ys) rest

-- where none is left out, all stay
pub none_out : {X : Type 0} (p : X → Bool) (xs : List X) → All (λ x. p x ≡ false) xs
    → filter (λ x. not (p x)) xs ≡ xs
none_out p [] others = refl
none_out p (x ∷ xs) others =
    let here : p x ≡ false = All-head (λ y. p y ≡ false) x xs others in
    let rest = none_out p xs (All-tail (λ y. p y ≡ false) x xs others) in
    ap (λ b. cond (not b) (x ∷ filter (λ y. not (p y)) xs) (filter (λ y. not (p y)) xs)) here
    ∙ ap (λ ys. x ∷ ys) rest

-- where nothing is at hand there is room
pub some_there : (rows : ℕ) (days : List KnownDay) → rows ≤ most_rows → has_room rows days ≡ false → 0 < length days
some_there rows [] fits full = absurd (grind (arith, nat_tests, full))
some_there rows (k ∷ ks) fits full = omega arith

-- room is for one more day, and for its rows
pub room_for : (rows : ℕ) (days : List KnownDay) → has_room rows days ≡ true
    → (length days < most_days) × (rows_at_hand days + rows ≤ most_rows)
room_for rows days room = (grind (arith, nat_tests, room), grind (arith, nat_tests, room))

-- the first went
pub first_gone : (gone : ℕ) (all days : List KnownDay) → days ≡ drop gone all → remove days 0 ≡ drop (gone + 1) all
first_gone gone all days same = ap (drop 1) same ∙ drop-drop 1 gone all

-- and was in the way
pub in_the_way : (rows gone : ℕ) (all : List KnownDay) → ((n : ℕ) → n < gone → has_room rows (drop n all) ≡ false)
    → has_room rows (drop gone all) ≡ false → (n : ℕ) → n < gone + 1 → has_room rows (drop n all) ≡ false
in_the_way rows gone all before here n below = by (nat_lt n gone) refl
  where
    by : (b : Bool) → nat_lt n gone ≡ b → has_room rows (drop n all) ≡ false
    by true is = before n (grind (arith, nat_tests, is))
    by false is =
        let same : gone ≡ n = grind (arith, nat_tests, is, below) in
        subst (λ m. has_room rows (drop m all) ≡ false) same here

-- what a push leaves
pub pushed_or_not : {X : Type 0} (b : Bool) (xs ys : List X) (x : X) → ys ≡ cond b (xs ++ x ∷ []) xs
    → (ys ≡ xs) ⊎ (ys ≡ xs ++ x ∷ [])
pushed_or_not true xs ys x is = inr is
pushed_or_not false xs ys x is = inl is

pub drop_rows : (n : ℕ) (days : List KnownDay) → rows_at_hand (drop n days) ≤ rows_at_hand days
drop_rows n days = omega (arith, sum_by-take-drop rows_in days n)

-- a day that is inserted where all are known
pub inserted_known : (rows : Centre) (known : KnownDay) (days after : List KnownDay) → Inserts known days after
    → AreKnown rows days → IsKnown rows known → AreKnown rows after
inserted_known rows known days after (inl large) all new = subst (AreKnown rows) (sym large.1) all
inserted_known rows known days after (inr it) all new = by it.2
  where
    left_known : AreKnown rows it.0
    left_known = subst (AreKnown rows) (sym it.1.latest) (All-drop (IsKnown rows) it.1.gone days all)

    by : (after ≡ it.0) ⊎ (after ≡ it.0 ++ known ∷ []) → AreKnown rows after
    by (inl is) = subst (AreKnown rows) (sym is) left_known
    by (inr is) = subst (AreKnown rows) (sym is) (All-push (IsKnown rows) it.0 known left_known new)

-- the days stay few, and so do their rows
pub inserted_few : (known : KnownDay) (days after : List KnownDay) → Inserts known days after → length days ≤ most_days
    → rows_at_hand days ≤ most_rows → (length after ≤ most_days) × (rows_at_hand after ≤ most_rows)
inserted_few known days after (inl large) few few_rows = (
  subst (λ ks. length ks ≤ most_days) (sym large.1) few,
  subst (λ ks. rows_at_hand ks ≤ most_rows) (sym large.1) few_rows,
)
inserted_few known days after (inr it) few few_rows = by it.2
  where
    by : (after ≡ it.0) ⊎ (after ≡ it.0 ++ known ∷ []) → (length after ≤ most_days) × (rows_at_hand after ≤ most_rows)
    by (inl is) =
        let room = room_for (rows_in known) it.0 it.1.room in
        let count : length after ≡ length it.0 = ap length is in
        let sum : rows_at_hand after ≡ rows_at_hand it.0 = ap rows_at_hand is in
        (omega arith, omega arith)
    by (inr is) =
        let room = room_for (rows_in known) it.0 it.1.room in
        let count : length after ≡ length it.0 + 1 = ap length is ∙ length_push it.0 known in
        let sum : rows_at_hand after ≡ rows_at_hand it.0 + rows_in known =
        ap rows_at_hand is ∙ sum_by_push rows_in it.0 known in
        (omega arith, omega arith)
