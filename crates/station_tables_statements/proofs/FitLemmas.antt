-- The numbers of a set that keeps the rules have 16 bits or 32, and its texts and bytes are such as are read.
use Rattle.std.proofs.Common.{◌≡◌, ℕ, ◌+◌, ◌<◌, Bool, true, false, true≢false, ◌&&◌, not, cond, List, [], ◌∷◌, map}
use Rattle.std.proofs.Common.{filter, length, Option, Some, None, IsPermutation, refl, sym, ap, ◌∙◌, subst, arith}
use Rattle.std.specs.Prelude.{◌==◌, ◌^◌, nat_lt, nat_le, find, is_some, bytes_eq}
use Rattle.std.specs.List.{AllByRecursion, list_all, list_any}
use Rattle.std.proofs.lemmas.Bool.{eqb-true, eq-eqb}
use Rattle.std.proofs.lemmas.Bool.Decides.{nat_tests}
use Rattle.std.proofs.lemmas.List.Sorted.{list_any-IsPermutation}
use Rattle.sqlite_keyed.proofs.SliceLemmas.{any_is_found}
use Rattle.sqlite_keyed.proofs.ListLemmas.{all_weaker, all_both, all_of, all_kept, all_unmap, all_from_test}
use Rattle.timecode.specs.declared.rates.Rate.{Rate}
use Rattle.timecode.specs.declared.rates.Rate.TheVariants.{F24, F25, F30, Df30}
use Rattle.timecode.specs.Counting.{day_length}
use Rattle.channel_plan.specs.declared.plan.PlanRow.{PlanRow}
use Rattle.vault_core.specs.declared.tape.Tape.{Tape}
use Rattle.vault_core.specs.declared.clip.Clip.{Clip}
use Rattle.vault_core.specs.declared.offer.Offer.{Offer}
use Rattle.channel_plan.specs.Plan.{is_plan, is_plan_row}
use Rattle.vault_core.specs.Own.{Own}
use Rattle.channel_view_model.specs.Centre.{Centre, plan_of, own_of}
use Rattle.channel_view_model.specs.Tables.{rows_of}
use Rattle.channel_view_model.specs.Rules.{KeepsRules, is_planned}
use Rattle.vault_core.specs.Rules.{KeepsOwnRules, is_tape, is_slot, is_clip, is_offer, is_numbered_from}
use Rattle.vault_core.specs.Clip.{is_title}
use Rattle.vault_core.specs.Offer.{granted_umid, is_copy, matches_clip}
use Rattle.umid.specs.BasicUmid.{UmidParts, is_umid, basic_umid, parts_in}
use Rattle.umid.proofs.UmidLemmas.{parts_in-basic_umid}
use Rattle.std.proofs.lemmas.Slice.Eq.{bytes_eq-Decides}
use Rattle.channel_plan.proofs.PlanLemmas.{plan-from_order}
use Rattle.station_tables_records.specs.ChannelRows.{channel_fits}
use Rattle.station_tables_records.specs.TapeRows.{tape_fits, slot_fits}
use Rattle.station_tables_records.specs.ClipRows.{clip_fits}
use Rattle.station_tables_records.specs.OfferRows.{offer_fits}

pub left : (a b : Bool) → (a && b) ≡ true → a ≡ true
left true b both = refl
left false b both = both

pub right : (a b : Bool) → (a && b) ≡ true → b ≡ true
right true b both = both
right false b both = absurd (true≢false (sym both))

pub both_are : (a b : Bool) → a ≡ true → b ≡ true → (a && b) ≡ true
both_are a b l r = ap (λ c. c && b) l ∙ r

pub less : (n top : ℕ) → n < top → nat_lt n top ≡ true
less n top lt = grind (arith, nat_tests, lt)

pub below : (n m k : ℕ) → nat_le n m ≡ true → m < k → nat_lt n k ≡ true
below n m k at_most small = grind (arith, nat_tests, at_most, small)

-- a number below the next one, of rows of which there are at most so many
pub numbered_below : (n many most top : ℕ) → n < 1 + many → nat_le many most ≡ true → most < top → nat_lt n top ≡ true
numbered_below n many most top lt few small = grind (arith, nat_tests, lt, few, small)

beneath : (n m k : ℕ) → nat_lt n m ≡ true → m < k → nat_lt n k ≡ true
beneath n m k less small = grind (arith, nat_tests, less, small)

pub length_small : (rate : Rate) → day_length rate < 2 ^ 32
length_small F24 = omega arith
length_small F25 = omega arith
length_small F30 = omega arith
length_small Df30 = omega arith

-- ---- channels

row_fits : (c : PlanRow) → is_plan_row c ≡ true → channel_fits c ≡ true
row_fits c ok =
    let first = left _ _ (left _ _ ok) in
    both_are _ _
    (both_are _ _ (below c.ch 999 65536 (right _ _ (left _ _ first)) (omega arith))
    (beneath c.start (day_length c.rate) (2 ^ 32) (right _ _ first) (length_small c.rate)))
    (below c.slots 9999 65536 (right _ _ ok) (omega arith))

plan_rows : (cs : List PlanRow) → is_plan cs ≡ true → AllByRecursion (λ p. is_plan_row p ≡ true) cs
plan_rows [] ok = tt
plan_rows (c ∷ cs) ok = (left _ _ (left _ _ ok), plan_rows cs (right _ _ ok))

pub channels_fit : (rows : Centre) → KeepsRules rows → AllByRecursion (λ c. channel_fits c ≡ true) rows.channels
channels_fit rows keeps =
    all_weaker _ _ (λ c ok. row_fits c ok) rows.channels
    (plan_rows rows.channels (plan-from_order rows.channels keeps.plan))

-- what is found passes the test, and has what all have
pub found_has : {A : Type 0} (q : A → Bool) (P : A → Type 0) (xs : List A) → AllByRecursion P xs → (x : A)
    → find q xs ≡ Some x → (q x ≡ true) × P x
found_has q P [] all x found = absurd (cc)
found_has {A} q P (y ∷ ys) all x found = by (q y) refl found (found_has q P ys all.1 x)
  where
    by : (b : Bool) → q y ≡ b → cond b (Some y) (find q ys) ≡ Some x → (find q ys ≡ Some x → (q x ≡ true) × P x)
        → (q x ≡ true) × P x
    by true is found rest = let same : y ≡ x = cc in subst (λ (z : A). (q z ≡ true) × P z) same (is, all.0)
    by false is found rest = rest found

-- a channel of the plan, by its number
pub planned_fits : (cs : List PlanRow) → is_plan cs ≡ true → (c : ℕ) (p : PlanRow)
    → find (λ (q : PlanRow). q.ch == c) cs ≡ Some p → (nat_le c 999 ≡ true) × (nat_le p.slots 9999 ≡ true)
planned_fits cs ok c p there =
    let found = found_has (λ (q : PlanRow). q.ch == c) (λ q. is_plan_row q ≡ true) cs (plan_rows cs ok) p there in
    let first = left _ _ (left _ _ found.1) in
    (subst (λ n. nat_le n 999 ≡ true) (eqb-true p.ch c found.0) (right _ _ (left _ _ first)), right _ _ found.1)

-- ---- the rows of a table

-- a test of all elements knows no order
pub all_permuted : {A : Type 0} (test : A → Bool) (xs ys : List A) → IsPermutation xs ys
    → list_all test xs ≡ list_all test ys
all_permuted {A} test xs ys same =
    all_not_any xs ∙ ap not (list_any-IsPermutation (λ x. not (test x)) xs ys same) ∙ sym (all_not_any ys)
  where
    all_not_any : (xs : List A) → list_all test xs ≡ not (list_any (λ x. not (test x)) xs)
    all_not_any [] = refl
    all_not_any (x ∷ xs) = grind (arith, all_not_any xs)

-- of rows that a test picks, what passes another
pub picked_pass : {R A : Type 0} (mine : R → Bool) (f : R → A) (test : A → Bool) (rs : List R)
    → list_all test (map f (filter mine rs)) ≡ true → AllByRecursion (λ r. mine r ≡ true → test (f r) ≡ true) rs
picked_pass mine f test rs all =
    all_kept (λ r. test (f r) ≡ true) mine rs
    (all_unmap (λ x. test x ≡ true) f (filter mine rs) (all_from_test test (map f (filter mine rs)) all))

pub number_fits : {A : Type 0} (number : A → ℕ) (n : ℕ) (xs : List A) → is_numbered_from number n xs ≡ true
    → AllByRecursion (λ x. number x < n + length xs) xs
number_fits number n [] ok = tt
number_fits number n (x ∷ xs) ok = (
  grind (arith, eqb-true (number x) n (left _ _ ok)),
  all_weaker _ _ (λ u lt. omega (arith, lt)) xs
      (number_fits number (n + 1) xs (right _ _ ok)),
)

-- what is there is found
pub found_some : (p : PlanRow → Bool) (cs : List PlanRow) → list_any p cs ≡ true → is_some (find p cs) ≡ true
found_some p cs there = sym (any_is_found p cs) ∙ there

module _ {A : Type 0} where
  pub of_channel : (c : ℕ) (P : A → Type 0) (table : List (ℕ × A)) → AllByRecursion P (rows_of c table)
      → AllByRecursion (λ r. (r.0 == c) ≡ true → P r.1) table
  of_channel c P table all =
      all_kept (λ r. P r.1) (λ r. r.0 == c) table (all_unmap P (λ r. r.1) (filter (λ r. r.0 == c) table) all)

  pub own_channels : (Q : ℕ × A → Type 0) (table : List (ℕ × A))
      → ((c : ℕ) → AllByRecursion (λ r. (r.0 == c) ≡ true → Q (c, r.1)) table) → AllByRecursion Q table
  own_channels Q [] all = tt
  own_channels Q (r ∷ rs) all = ((all r.0).0 (eq-eqb r.0 r.0 refl), own_channels Q rs (λ c. (all c).1))

  -- what fits of each channel's rows fits of the table
  module _ (fits : ℕ × A → Bool) (rows : Centre) (table : List (ℕ × A)) where
    each_channel : ((c : ℕ) (p : PlanRow) → plan_of c rows ≡ Some p
        → AllByRecursion (λ x. fits (c, x) ≡ true) (rows_of c table)) → (c : ℕ) (o : Option PlanRow)
        → plan_of c rows ≡ o
        → AllByRecursion (λ x. is_some o ≡ true → fits (c, x) ≡ true) (rows_of c table)
    each_channel own c None is = all_of _ (λ x e. absurd (true≢false (sym e))) (rows_of c table)
    each_channel own c (Some p) is = all_weaker _ _ (λ x h _. h) (rows_of c table) (own c p is)

    pub table_fits : list_all (λ (r : ℕ × A). is_planned rows.channels r.0) table ≡ true
        → ((c : ℕ) (p : PlanRow) → plan_of c rows ≡ Some p → AllByRecursion (λ x. fits (c, x) ≡ true) (rows_of c table))
        → AllByRecursion (λ r. fits r ≡ true) table
    table_fits ok own =
        all_both (λ r. is_planned rows.channels r.0 ≡ true) (λ r. is_some (plan_of r.0 rows) ≡ true → fits r ≡ true)
        (λ r. fits r ≡ true) (λ r there fit. fit (found_some _ rows.channels there)) table
        (all_from_test _ table ok)
        (own_channels (λ r. is_some (plan_of r.0 rows) ≡ true → fits r ≡ true) table
        (λ c. of_channel c (λ x. is_some (plan_of c rows) ≡ true → fits (c, x) ≡ true) table
        (each_channel own c (plan_of c rows) refl)))

-- rows without a hole in their numbers: each has fields that pass, and a number below the next one
pub own_rows : {A : Type 0} (number : A → ℕ) (fields : A → Bool) (Q : A → Type 0) (xs : List A)
    → list_all fields xs ≡ true → is_numbered_from number 1 xs ≡ true
    → ((x : A) → fields x ≡ true → number x < 1 + length xs → Q x) → AllByRecursion Q xs
own_rows number fields Q xs ok numbered each =
    all_both (λ x. fields x ≡ true) (λ x. number x < 1 + length xs) Q each xs (all_from_test fields xs ok)
    (number_fits number 1 xs numbered)

-- the rows of channels that keep the rules of their own rows
pub owned_fit : {A : Type 0} (rows : Centre) → KeepsRules rows → (fits : ℕ × A → Bool) (table : List (ℕ × A))
    → list_all (λ r. is_planned rows.channels r.0) table ≡ true
    → ((c : ℕ) (p : PlanRow) → nat_le c 999 ≡ true → nat_le p.slots 9999 ≡ true → KeepsOwnRules (own_of c p rows)
    → AllByRecursion (λ x. fits (c, x) ≡ true) (rows_of c table)) → AllByRecursion (λ r. fits r ≡ true) table
owned_fit rows keeps fits table planned each =
    table_fits fits rows table planned
    (λ c p is. let small = planned_fits rows.channels (plan-from_order rows.channels keeps.plan) c p is in
    each c p small.0 small.1 (keeps.own c p is))

-- ---- tapes

slot_is_small : (slots : ℕ) (slot : Option ℕ) → nat_le slots 9999 ≡ true → is_slot slots slot ≡ true
    → slot_fits slot ≡ true
slot_is_small slots None small ok = refl
slot_is_small slots (Some s) small ok =
    let top : nat_le s slots ≡ true = right _ _ ok in
    grind (arith, nat_tests, small, top)

pub tapes_fit : (rows : Centre) → KeepsRules rows → AllByRecursion (λ r. tape_fits r ≡ true) rows.tapes
tapes_fit rows keeps =
    owned_fit rows keeps tape_fits rows.tapes (right _ _ (left _ _ (left _ _ keeps.tables)))
    (λ c p channel shelf own. own_rows (λ (t : Tape). t.n) (is_tape p.slots) (λ t. tape_fits (c, t) ≡ true)
    (rows_of c rows.tapes) own.fields own.numbers
    (λ t fields lt. both_are _ _
    (both_are _ _
    (both_are _ _ (below c 999 65536 channel (omega arith))
    (numbered_below t.n (length (rows_of c rows.tapes)) 9999 65536 lt own.at_most (omega arith))) (left _ _ fields))
    (slot_is_small p.slots t.slot shelf (right _ _ fields))))

-- ---- clips

range_fits : (first frames day top : ℕ) → day < top → (nat_lt 0 frames && nat_le (first + frames) day) ≡ true
    → (nat_lt first top ≡ true) × (nat_lt frames top ≡ true)
range_fits first frames day top small ok = (grind (arith, nat_tests, small, ok), grind (arith, nat_tests, small, ok))

on_tape_fits : (tape tapes : ℕ) → nat_le tapes 9999 ≡ true → (nat_lt 0 tape && nat_le tape tapes) ≡ true
    → nat_lt tape 65536 ≡ true
on_tape_fits tape tapes few there = grind (arith, nat_tests, few, there)

own_clips_fit : (c : ℕ) (own : Own) → nat_le c 999 ≡ true → KeepsOwnRules own
    → AllByRecursion (λ k. clip_fits (c, k) ≡ true) own.clips
own_clips_fit c own channel keeps =
    own_rows (λ (k : Clip). k.n) (is_clip own.plan (length own.tapes)) (λ k. clip_fits (c, k) ≡ true) own.clips
    keeps.clips.fields keeps.clips.numbers
    (λ k fields lt.
    let range =
    range_fits k.src_first k.frames (day_length own.plan.rate) (2 ^ 32) (length_small own.plan.rate)
    (right _ _ fields) in
    let names = left _ _ (left _ _ fields) in
    let place = on_tape_fits k.tape (length own.tapes) keeps.at_most (right _ _ (left _ _ fields)) in
    let number = numbered_below k.n (length own.clips) 20000 (2 ^ 32) lt keeps.clips.at_most (omega arith) in
    both_are _ _
    (both_are _ _
    (both_are _ _
    (both_are _ _ (both_are _ _ (both_are _ _ (below c 999 65536 channel (omega arith)) number) place)
    (left _ _ names)) (right _ _ names)) range.0)
    range.1)

pub clips_fit : (rows : Centre) → KeepsRules rows → AllByRecursion (λ r. clip_fits r ≡ true) rows.clips
clips_fit rows keeps =
    owned_fit rows keeps clip_fits rows.clips (right _ _ (right _ _ (left _ _ keeps.tables)))
    (λ c p channel shelf own. own_clips_fit c (own_of c p rows) channel own)

-- ---- offers

same_bytes : (a b : List ℕ) → bytes_eq a b ≡ true → a ≡ b
same_bytes a b same = (bytes_eq-Decides a b).0 same

-- a clip's UMID with a grantee in it is one
granted_fits : (u : UmidParts) (g : ℕ) → nat_le g 999 ≡ true → is_umid u ≡ true → is_umid (granted_umid u g) ≡ true
unfolding is_umid
granted_fits u g small ok =
    let front = left _ _ (left _ _ ok) in
    both_are _ _
    (both_are _ _ (both_are _ _ (left _ _ front) (below g 999 (2 ^ 24) small (omega arith)))
    (right _ _ (left _ _ ok))) (right _ _ ok)

-- what a clip fits, a copy of it does
copied_fits : (c : ℕ) (p : PlanRow) (o : Offer) (k : Clip) → nat_le c 999 ≡ true → nat_lt o.n 65536 ≡ true
    → nat_le o.grantee 999 ≡ true → (k.n == o.clip) ≡ true → is_copy p o k ≡ true → clip_fits (c, k) ≡ true
    → offer_fits (c, o) ≡ true
unfolding is_copy
copied_fits c p o k channel number grantee same copy fits =
    let frames = right _ _ copy in
    let names = left _ _ (left _ _ copy) in
    let umid : o.umid ≡ granted_umid k.umid o.grantee =
    sym (parts_in-basic_umid o.umid)
    ∙ ap parts_in (same_bytes (basic_umid o.umid) (basic_umid (granted_umid k.umid o.grantee)) (right _ _ names))
    ∙ parts_in-basic_umid (granted_umid k.umid o.grantee) in
    let f1 = left _ _ fits in
    let f2 = left _ _ f1 in
    let f3 = left _ _ f2 in
    let f4 = left _ _ f3 in
    let first : nat_lt o.src_first (2 ^ 32) ≡ true =
    subst (λ n. nat_lt n (2 ^ 32) ≡ true) (sym (eqb-true o.src_first k.src_first (left _ _ frames))) (right _ _ f1)
    in
    let length_fits : nat_lt o.frames (2 ^ 32) ≡ true =
    subst (λ n. nat_lt n (2 ^ 32) ≡ true) (sym (eqb-true o.frames k.frames (right _ _ frames))) (right _ _ fits) in
    let umid_fits : is_umid o.umid ≡ true =
    subst (λ u. is_umid u ≡ true) (sym umid) (granted_fits k.umid o.grantee grantee (right _ _ f2)) in
    let title_fits : is_title o.title ≡ true =
    subst (λ t. is_title t ≡ true) (sym (same_bytes o.title k.title (left _ _ names))) (right _ _ f3) in
    let clip_number : nat_lt o.clip (2 ^ 32) ≡ true =
    subst (λ n. nat_lt n (2 ^ 32) ≡ true) (eqb-true k.n o.clip same) (right _ _ (left _ _ f4)) in
    both_are _ _
    (both_are _ _
    (both_are _ _
    (both_are _ _
    (both_are _ _
    (both_are _ _ (both_are _ _ (below c 999 65536 channel (omega arith)) number)
    (below o.grantee 999 65536 grantee (omega arith))) clip_number) title_fits) umid_fits) first)
    length_fits

offer_of_clip : (c : ℕ) (p : PlanRow) (ks : List Clip) → AllByRecursion (λ k. clip_fits (c, k) ≡ true) ks → (o : Offer)
    → nat_le c 999 ≡ true → nat_lt o.n 65536 ≡ true → nat_le o.grantee 999 ≡ true
    → (found : Option Clip) → find (λ (k : Clip). k.n == o.clip) ks ≡ found → matches_clip p o found ≡ true
    → offer_fits (c, o) ≡ true
offer_of_clip c p ks fit o channel number grantee None is copy = absurd (true≢false (sym copy))
offer_of_clip c p ks fit o channel number grantee (Some k) is copy =
    let mine = found_has (λ (j : Clip). j.n == o.clip) (λ j. clip_fits (c, j) ≡ true) ks fit k is in
    copied_fits c p o k channel number grantee mine.0 copy mine.1

pub offers_fit : (rows : Centre) → KeepsRules rows → AllByRecursion (λ r. offer_fits r ≡ true) rows.offers
offers_fit rows keeps =
    owned_fit rows keeps offer_fits rows.offers (right _ _ (right _ _ keeps.tables))
    (λ c p channel shelf own. own_rows (λ (o : Offer). o.n) (is_offer p (rows_of c rows.clips))
    (λ o. offer_fits (c, o) ≡ true) (rows_of c rows.offers) own.offers.fields own.offers.numbers
    (λ o fields lt. offer_of_clip c p (rows_of c rows.clips) (own_clips_fit c (own_of c p rows) channel own) o channel
    (numbered_below o.n (length (rows_of c rows.offers)) 9999 65536 lt own.offers.at_most (omega arith))
    (right _ _ (left _ _ (left _ _ fields))) (find (λ (k : Clip). k.n == o.clip) (rows_of c rows.clips)) refl
    (right _ _ fields)))
