-- A channel's own rows keep the rules with the row that a command adds or changes.
use Rattle.std.proofs.Common.{◌≡◌, ℕ, ◌+◌, ◌<◌, ◌≤◌, List, [], ◌∷◌, ◌++◌, length, Bool, true, false, not, cond, sym}
use Rattle.std.proofs.Common.{◌∙◌, ap, subst, refl, arith}
use Rattle.std.specs.Prelude.{◌==◌, nat_eq, nat_lt, nat_le, map, find, is_some, Option, Some, None, Ok, Err, bytes_eq}
use Rattle.std.specs.Prelude.{◌||◌, ◌&&◌, if◌then◌else◌}
use Rattle.std.specs.List.{list_any, list_all, cons_option}
use Rattle.std.proofs.lemmas.Bool.Decides.{nat_tests}
use Rattle.std.proofs.lemmas.List.{length-append, length-map}
use Rattle.std.proofs.lemmas.List.Folds.{list_any-append, list_all-append}
use Rattle.channel_plan.specs.declared.plan.PlanRow.{PlanRow}
use Rattle.vault_core.specs.declared.tape.Tape.{Tape}
use Rattle.vault_core.specs.declared.clip.Clip.{Clip}
use Rattle.channel_plan.specs.declared.refusal.Refusal.{Refusal}
use Rattle.channel_plan.specs.declared.refusal.Code.TheVariants.{BadSlot, SlotTaken, TapeOut, TapeShelved}
use Rattle.channel_plan.specs.Refusal.{refused}
use Rattle.channel_plan.specs.Plan.{is_plan_row}
use Rattle.vault_core.specs.Questions.{alter}
use Rattle.vault_core.specs.Own.{Own, own_seen, with_tape, with_slot}
use Rattle.vault_core.specs.Tape.{is_barcode, is_bad_slot, stands_in, tape_for, of_tape, as_pulled, pulled, shelved_in}
use Rattle.vault_core.specs.Tape.{shelved}
use Rattle.vault_core.specs.Rules.{is_slot, is_tape, is_numbered_from, are_apart, barcodes_of, slots_of, is_clip}
use Rattle.vault_core.specs.Rules.{KeepsClipRules, KeepsOwnRules}

-- one row more at the end
pub numbered-push : {R : Type 0} (number : R → ℕ) (rs : List R) (n : ℕ) (r : R) → is_numbered_from number n rs ≡ true
    → number r ≡ n + length rs → is_numbered_from number n (rs ++ r ∷ []) ≡ true
numbered-push number [] n r h e = grind (arith, nat_tests, e)
numbered-push number (u ∷ rs) n r h e = grind (arith, nat_tests, h, numbered-push number rs (n + 1) r)

pub apart-push : {K : Type 0} (equal : K → K → Bool) (xs : List K) (x : K) → are_apart equal xs ≡ true
    → list_any (λ y. equal y x) xs ≡ false → are_apart equal (xs ++ x ∷ []) ≡ true
apart-push equal [] x h none = refl
apart-push equal (y ∷ xs) x h none =
    rw (list_any-append (equal y) xs (x ∷ [])) (grind (arith, h, none, apart-push equal xs x))

pub map-push : {A B : Type 0} (f : A → B) (xs : List A) (x : A) → map f (xs ++ x ∷ []) ≡ map f xs ++ f x ∷ []
map-push f [] x = refl
map-push f (y ∷ xs) x = ap (λ zs. f y ∷ zs) (map-push f xs x)

slots-push : (ts : List Tape) (t : Tape) (s : ℕ) → t.slot ≡ Some s → slots_of (ts ++ t ∷ []) ≡ slots_of ts ++ s ∷ []
slots-push [] t s e = ap (λ o. cons_option o []) e
slots-push (u ∷ ts) t s e =
    elim u.slot as (λ o. cons_option o (slots_of (ts ++ t ∷ [])) ≡ cons_option o (slots_of ts) ++ s ∷ [])
    [ None ↦ slots-push ts t s e | Some a ↦ ap (λ zs. a ∷ zs) (slots-push ts t s e) ]

-- the questions that the command asks, over the lists of keys
barcode_any : (ts : List Tape) (barcode : List ℕ)
    → list_any (λ t. bytes_eq t.barcode barcode) ts ≡ list_any (λ b. bytes_eq b barcode) (barcodes_of ts)
barcode_any [] barcode = refl
barcode_any (t ∷ ts) barcode = ap (λ b. bytes_eq t.barcode barcode || b) (barcode_any ts barcode)

slot_any : (ts : List Tape) (slot : ℕ)
    → list_any (λ t. stands_in slot t.slot) ts ≡ list_any (λ s. nat_eq s slot) (slots_of ts)
slot_any [] slot = refl
slot_any (t ∷ ts) slot =
    elim t.slot
    as (λ o. (stands_in slot o || list_any (λ u. stands_in slot u.slot) ts)
    ≡ list_any (λ s. nat_eq s slot) (cons_option o (slots_of ts))) [
      | None ↦ slot_any ts slot
      | Some a ↦ ap (λ b. nat_eq a slot || b) (slot_any ts slot)
    ]

-- the tests that a tape passed
chain : (a b c d e : Bool) (v w x y z : Refusal) (s t : Tape)
    → cond a (Err v) (cond b (Err w) (cond c (Err x) (cond d (Err y) (cond e (Err z) (Ok s))))) ≡ Ok t
    → (a ≡ false) × (b ≡ false) × (c ≡ false) × (d ≡ false) × (e ≡ false) × (s ≡ t)
chain true b c d e v w x y z s t h = absurd (cc)
chain false true c d e v w x y z s t h = absurd (cc)
chain false false true d e v w x y z s t h = absurd (cc)
chain false false false true e v w x y z s t h = absurd (cc)
chain false false false false true v w x y z s t h = absurd (cc)
chain false false false false false v w x y z s t h = (refl, refl, refl, refl, refl, cc)

pub not_false : (b : Bool) → not b ≡ false → b ≡ true
not_false true h = refl
not_false false h = cc

-- clips keep their rules where tapes are added
fields-more : (plan : PlanRow) (n m : ℕ) (cs : List Clip) → n ≤ m → list_all (is_clip plan n) cs ≡ true
    → list_all (is_clip plan m) cs ≡ true
fields-more plan n m [] le h = refl
fields-more plan n m (c ∷ cs) le h =
    let rest : list_all (is_clip plan m) cs ≡ true = fields-more plan n m cs le (grind (arith, h)) in
    let first : is_clip plan n c ≡ true = grind (arith, h) in
    let here : is_clip plan m c ≡ true = grind (arith, nat_tests, first, le) in
    grind (arith, here, rest)

clips-more : (plan : PlanRow) (n m : ℕ) (cs : List Clip) → n ≤ m → KeepsClipRules plan n cs → KeepsClipRules plan m cs
clips-more plan n m cs le rules =
    record {
      fields = fields-more plan n m cs le rules.fields;
      at_most = rules.at_most;
      numbers = rules.numbers;
      umids =
          rules.umids;
    }

-- a channel's rules hold with the tape that it adds
pub own-push : (own : Own) (barcode : List ℕ) (slot : ℕ) (t : Tape) → tape_for (own_seen own) barcode slot ≡ Ok t
    → KeepsOwnRules own → KeepsOwnRules (with_tape own t)
unfolding tape_for
own-push own barcode slot t made rules =
    let tape : Tape = record { n = length own.tapes + 1; barcode = barcode; slot = Some slot } in
    let passed : (not (is_barcode barcode) ≡ false) × ((slot == 0 || nat_lt own.plan.slots slot) ≡ false)
    × (list_any (λ u. bytes_eq u.barcode barcode) own.tapes ≡ false)
    × (list_any (λ u. stands_in slot u.slot) own.tapes ≡ false) × (nat_le 9999 (length own.tapes) ≡ false)
    × (tape ≡ t) = chain _ _ _ _ _ _ _ _ _ _ _ t made in
    let text : is_barcode barcode ≡ true = not_false (is_barcode barcode) passed.0 in
    let place : (slot == 0 || nat_lt own.plan.slots slot) ≡ false = passed.1 in
    let room : nat_le 9999 (length own.tapes) ≡ false = passed.4 in
    let one : is_tape own.plan.slots tape ≡ true = grind (arith, nat_tests, text, place) in
    subst (λ u. KeepsOwnRules (with_tape own u)) passed.5 (record {
      plan = rules.plan;
      fields = list_all-append (is_tape own.plan.slots) own.tapes (tape ∷ []) ∙ grind (arith, one, rules.fields);
      at_most = rw (length-append own.tapes (tape ∷ [])) (grind (arith, nat_tests, room));
      numbers = numbered-push (λ t. t.n) own.tapes 1 tape rules.numbers (omega arith);
      barcodes =
          rw (map-push (λ t. t.barcode) own.tapes tape)
          (apart-push bytes_eq (barcodes_of own.tapes) barcode rules.barcodes
          (sym (barcode_any own.tapes barcode) ∙ passed.2));
      slots =
          rw (slots-push own.tapes tape slot refl)
          (apart-push nat_eq (slots_of own.tapes) slot rules.slots (sym (slot_any own.tapes slot) ∙ passed.3));
      clips =
          clips-more own.plan (length own.tapes) (length (own.tapes ++ tape ∷ [])) own.clips
          (omega (arith, length-append own.tapes (tape ∷ []))) rules.clips;
      offers = rules.offers;
    })

-- a plan row alone keeps the rules
pub no_tape_kept : (p : PlanRow) → is_plan_row p ≡ true
    → KeepsOwnRules (record { plan = p; tapes = []; clips = []; offers = [] })
no_tape_kept p h =
    record {
      plan = h;
      fields = refl;
      at_most = refl;
      numbers = refl;
      barcodes = refl;
      slots = refl;
      clips =
          record { fields = refl; at_most = refl; numbers = refl; umids = refl };
      offers =
          record { fields = refl; at_most = refl; numbers = refl; grants = refl };
    }

-- rows of which some are changed
module _ {R : Type 0} (test : R → Bool) (change : R → R) where
  pub all-alter : (ok : R → Bool) → ((r : R) → ok r ≡ true → ok (change r) ≡ true) → (rs : List R)
      → list_all ok rs ≡ true → list_all ok (alter test change rs) ≡ true
  all-alter ok keeps [] h = refl
  all-alter ok keeps (r ∷ rs) h =
      let rest : list_all ok (alter test change rs) ≡ true = all-alter ok keeps rs (grind (arith, h)) in
      let first : ok r ≡ true = grind (arith, h) in
      elim (test r) as (λ b. (ok (cond b (change r) r) && list_all ok (alter test change rs)) ≡ true) [
        | true ↦ let changed : ok (change r) ≡ true = keeps r first in grind (arith, changed, rest)
        | false ↦ grind (arith, first, rest)
      ]

  pub map-alter : {K : Type 0} (key : R → K) → ((r : R) → key (change r) ≡ key r) → (rs : List R)
      → map key (alter test change rs) ≡ map key rs
  map-alter key same [] = refl
  map-alter key same (r ∷ rs) =
      elim (test r) as (λ b. key (cond b (change r) r) ∷ map key (alter test change rs) ≡ key r ∷ map key rs) [
        | true ↦ λ i. same r i ∷ map-alter key same rs i
        | false ↦ ap (λ ks. key r ∷ ks) (map-alter key same rs)
      ]

  pub numbered-alter : (number : R → ℕ) → ((r : R) → number (change r) ≡ number r) → (rs : List R) (n : ℕ)
      → is_numbered_from number n rs ≡ true → is_numbered_from number n (alter test change rs) ≡ true
  numbered-alter number same [] n h = refl
  numbered-alter number same (r ∷ rs) n h =
      let rest : is_numbered_from number (n + 1) (alter test change rs) ≡ true =
      numbered-alter number same rs (n + 1) (grind (arith, h)) in
      let first : (number r == n) ≡ true = grind (arith, h) in
      elim (test r)
      as (λ b. (number (cond b (change r) r) == n && is_numbered_from number (n + 1) (alter test change rs))
      ≡ true) [
        | true ↦ rw (same r) (grind (arith, first, rest))
        | false ↦ grind (arith, first, rest)
      ]

-- no row behind number n has it
pub alter_none : {R : Type 0} (number : R → ℕ) (change : R → R) (n m : ℕ) (rs : List R)
    → is_numbered_from number m rs ≡ true → n < m → alter (λ r. number r == n) change rs ≡ rs
alter_none number change n m [] h lt = refl
alter_none number change n m (r ∷ rs) h lt =
    let other : (number r == n) ≡ false = grind (arith, nat_tests, h, lt) in
    rw other (ap (λ zs. r ∷ zs) (alter_none number change n (m + 1) rs (grind (arith, h)) (omega arith)))

-- the rows with tape n in another slot
abbrev in_slot : ℕ → Option ℕ → List Tape → List Tape
in_slot n slot ts = alter (λ t. t.n == n) (λ t. record t { slot = slot }) ts

-- no tape stands in it
abbrev is_free : Option ℕ → List Tape → Bool
is_free None ts = true
is_free (Some s) ts = not (list_any (λ t. stands_in s t.slot) ts)

free_behind : (o : Option ℕ) (t : Tape) (ts : List Tape) → is_free o (t ∷ ts) ≡ true → is_free o ts ≡ true
free_behind None t ts h = refl
free_behind (Some s) t ts h = grind (arith, h)

-- nor does this one
abbrev differs : Option ℕ → Option ℕ → Bool
differs None other = true
differs (Some s) other = not (stands_in s other)

free_first : (o : Option ℕ) (t : Tape) (ts : List Tape) → is_free o (t ∷ ts) ≡ true → differs o t.slot ≡ true
free_first None t ts h = refl
free_first (Some s) t ts h = grind (arith, h)

-- one slot more in front, or none
any_behind : (a : ℕ) (o : Option ℕ) (xs : List ℕ) → list_any (nat_eq a) (cons_option o xs) ≡ false
    → list_any (nat_eq a) xs ≡ false
any_behind a None xs h = h
any_behind a (Some s) xs h = grind (arith, h)

any_first : (a : ℕ) (o : Option ℕ) (xs : List ℕ) → list_any (nat_eq a) (cons_option o xs) ≡ false
    → differs o (Some a) ≡ true
any_first a None xs h = refl
any_first a (Some s) xs h = grind (arith, nat_tests, h)

any_cons : (a : ℕ) (o : Option ℕ) (xs : List ℕ) → differs o (Some a) ≡ true → list_any (nat_eq a) xs ≡ false
    → list_any (nat_eq a) (cons_option o xs) ≡ false
any_cons a None xs d h = h
any_cons a (Some s) xs d h = grind (arith, nat_tests, d, h)

any_flip : (s : ℕ) (xs : List ℕ) → list_any (λ x. nat_eq x s) xs ≡ false → list_any (nat_eq s) xs ≡ false
any_flip s [] h = refl
any_flip s (x ∷ xs) h = let rest = any_flip s xs (grind (arith, h)) in grind (arith, nat_tests, h, rest)

apart_behind : (o : Option ℕ) (xs : List ℕ) → are_apart nat_eq (cons_option o xs) ≡ true → are_apart nat_eq xs ≡ true
apart_behind None xs h = h
apart_behind (Some s) xs h = grind (arith, h)

-- the slots of the other tapes stay apart
not_in : (a n : ℕ) (o : Option ℕ) (ts : List Tape) → differs o (Some a) ≡ true
    → list_any (nat_eq a) (slots_of ts) ≡ false → list_any (nat_eq a) (slots_of (in_slot n o ts)) ≡ false
not_in a n o [] d h = refl
not_in a n o (t ∷ ts) d h =
    let rest = not_in a n o ts d (any_behind a t.slot (slots_of ts) h) in
    elim (t.n == n)
    as (λ b. list_any (nat_eq a) (cons_option (cond b (record t { slot = o }) t).slot (slots_of (in_slot n o ts)))
    ≡ false) [
      | true ↦ any_cons a o (slots_of (in_slot n o ts)) d rest
      | false ↦ any_cons a t.slot (slots_of (in_slot n o ts)) (any_first a t.slot (slots_of ts) h) rest
    ]

new_first : (o : Option ℕ) (ts : List Tape) → is_free o ts ≡ true → are_apart nat_eq (slots_of ts) ≡ true
    → are_apart nat_eq (cons_option o (slots_of ts)) ≡ true
new_first None ts free apart = apart
new_first (Some s) ts free apart =
    let none : list_any (nat_eq s) (slots_of ts) ≡ false =
    any_flip s (slots_of ts) (sym (slot_any ts s) ∙ grind (arith, free)) in
    grind (arith, none, apart)

old_first : (n : ℕ) (o slot : Option ℕ) (ts : List Tape) → differs o slot ≡ true
    → are_apart nat_eq (cons_option slot (slots_of ts)) ≡ true → are_apart nat_eq (slots_of (in_slot n o ts)) ≡ true
    → are_apart nat_eq (cons_option slot (slots_of (in_slot n o ts))) ≡ true
old_first n o None ts d h rest = rest
old_first n o (Some a) ts d h rest =
    let none : list_any (nat_eq a) (slots_of (in_slot n o ts)) ≡ false = not_in a n o ts d (grind (arith, h)) in
    grind (arith, none, rest)

slots_apart : (n : ℕ) (o : Option ℕ) (m : ℕ) (ts : List Tape) → is_numbered_from (λ t. t.n) m ts ≡ true
    → is_free o ts ≡ true → are_apart nat_eq (slots_of ts) ≡ true → are_apart nat_eq (slots_of (in_slot n o ts)) ≡ true
slots_apart n o m [] h free apart = refl
slots_apart n o m (t ∷ ts) h free apart =
    let behind : is_numbered_from (λ t. t.n) (m + 1) ts ≡ true = grind (arith, h) in
    let free_rest : is_free o ts ≡ true = free_behind o t ts free in
    let apart_rest : are_apart nat_eq (slots_of ts) ≡ true = apart_behind t.slot (slots_of ts) apart in
    elim (t.n == n)
    as (λ b. (t.n == n) ≡ b
    → are_apart nat_eq (cons_option (cond b (record t { slot = o }) t).slot (slots_of (in_slot n o ts))) ≡ true) [
      | true ↦ λ e.
          let lt : n < m + 1 = grind (arith, nat_tests, e, h) in
          subst (λ us. are_apart nat_eq (cons_option o (slots_of us)) ≡ true)
          (sym (alter_none (λ t. t.n) (λ t. record t { slot = o }) n (m + 1) ts behind lt))
          (new_first o ts free_rest apart_rest)
      | false ↦ λ e. old_first n o t.slot ts (free_first o t ts free) apart
          (slots_apart n o (m + 1) ts behind free_rest apart_rest)
    ] refl

-- a channel's rules hold with a tape in a free slot, or out
own-move : (own : Own) (n : ℕ) (o : Option ℕ) → is_slot own.plan.slots o ≡ true → is_free o own.tapes ≡ true
    → KeepsOwnRules own → KeepsOwnRules (with_slot n o own)
own-move own n o place free rules =
    let test : Tape → Bool = λ t. t.n == n in
    let change : Tape → Tape = λ t. record t { slot = o } in
    record {
      plan = rules.plan;
      fields = all-alter test change (is_tape own.plan.slots) (λ t h. grind (arith, place, h)) own.tapes rules.fields;
      at_most = rw (length-map own.tapes (λ t. if t.n == n then record t { slot = o } else t)) rules.at_most;
      numbers = numbered-alter test change (λ t. t.n) (λ t. refl) own.tapes 1 rules.numbers;
      barcodes =
          subst (λ ks. are_apart bytes_eq ks ≡ true)
          (sym (map-alter test change (λ t. t.barcode) (λ t. refl) own.tapes)) rules.barcodes;
      slots = slots_apart n o 1 own.tapes rules.numbers free rules.slots;
      clips =
          subst (λ k. KeepsClipRules own.plan k own.clips)
          (sym (length-map own.tapes (λ t. if t.n == n then record t { slot = o } else t))) rules.clips;
      offers = rules.offers;
    }

-- with the tape that is pulled
taken_out_is : (t u : Tape) → as_pulled t ≡ Ok u → u.slot ≡ None
taken_out_is t u h = by t.slot refl
  where
    by : (o : Option ℕ) → t.slot ≡ o → u.slot ≡ None
    by None e =
        absurd (let no = ap (λ o. if is_some o then Ok (record t { slot = None }) else Err (refused TapeOut)) e in cc)
    by (Some s) e =
        let is = ap (λ o. if is_some o then Ok (record t { slot = None }) else Err (refused TapeOut)) e in
        let same : record t { slot = None } ≡ u = cc in ap (λ v. v.slot) (sym same)

pulled_of : (o : Option Tape) (u : Tape) → of_tape as_pulled o ≡ Ok u → u.slot ≡ None
pulled_of None u h = cc
pulled_of (Some t) u h = taken_out_is t u h

pub own-pull : (own : Own) (n : ℕ) (t : Tape) → pulled (own_seen own) n ≡ Ok t → KeepsOwnRules own
    → KeepsOwnRules (with_slot t.n t.slot own)
unfolding pulled
own-pull own n t made rules =
    let out : t.slot ≡ None = pulled_of (find (λ t. t.n == n) own.tapes) t made in
    subst (λ o. KeepsOwnRules (with_slot t.n o own)) (sym out) (own-move own t.n None refl refl rules)

-- with the tape that is shelved
put_in_is : (plan : PlanRow) (slot : ℕ) (is_taken : Bool) (t u : Tape) → shelved_in plan slot is_taken t ≡ Ok u
    → (u.slot ≡ Some slot) × (is_slot plan.slots (Some slot) ≡ true) × (is_taken ≡ false)
put_in_is plan slot is_taken t u h = by (is_bad_slot plan slot) (is_some t.slot) is_taken refl h
  where
    by : (a b c : Bool) → is_bad_slot plan slot ≡ a
        → cond a (Err (refused BadSlot))
        (cond b (Err (refused TapeShelved)) (cond c (Err (refused SlotTaken)) (Ok (record t { slot = Some slot }))))
        ≡ Ok u
        → (u.slot ≡ Some slot) × (is_slot plan.slots (Some slot) ≡ true) × (c ≡ false)
    by true b c e h = absurd (cc)
    by false true c e h = absurd (cc)
    by false false true e h = absurd (cc)
    by false false false e h =
        let same : record t { slot = Some slot } ≡ u = cc in
        (ap (λ v. v.slot) (sym same), grind (arith, nat_tests, e), refl)

shelved_of : (plan : PlanRow) (slot : ℕ) (is_taken : Bool) (o : Option Tape) (u : Tape)
    → of_tape (shelved_in plan slot is_taken) o ≡ Ok u
    → (u.slot ≡ Some slot) × (is_slot plan.slots (Some slot) ≡ true) × (is_taken ≡ false)
shelved_of plan slot is_taken None u h = absurd (cc)
shelved_of plan slot is_taken (Some t) u h = put_in_is plan slot is_taken t u h

pub own-shelve : (own : Own) (n slot : ℕ) (t : Tape) → shelved (own_seen own) n slot ≡ Ok t → KeepsOwnRules own
    → KeepsOwnRules (with_slot t.n t.slot own)
unfolding shelved
own-shelve own n slot t made rules =
    let is : (t.slot ≡ Some slot) × (is_slot own.plan.slots (Some slot) ≡ true)
    × (list_any (λ u. stands_in slot u.slot) own.tapes ≡ false) =
    shelved_of own.plan slot (list_any (λ u. stands_in slot u.slot) own.tapes) (find (λ t. t.n == n) own.tapes) t made
    in
    let free : is_free (Some slot) own.tapes ≡ true = ap not is.2 in
    subst (λ o. KeepsOwnRules (with_slot t.n o own)) (sym is.0) (own-move own t.n (Some slot) is.1 free rules)
