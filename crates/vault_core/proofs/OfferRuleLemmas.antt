-- A channel's offers keep the rules with the clip or the offer that a command adds or changes.
use Rattle.std.proofs.Common.{◌≡◌, ℕ, List, [], ◌∷◌, ◌++◌, Bool, true, false, cond, sym, ◌∙◌, ap, refl, arith}
use Rattle.std.specs.Prelude.{◌==◌, map, find, Option, Some, None, if◌then◌else◌}
use Rattle.std.specs.List.{list_any, list_all, cons_option}
use Rattle.std.specs.Option.{option_map, option_or}
use Rattle.std.proofs.lemmas.List.{length-map}
use Rattle.std.proofs.lemmas.List.Folds.{find-append}
use Rattle.channel_plan.specs.declared.plan.PlanRow.{PlanRow}
use Rattle.vault_core.specs.declared.clip.Clip.{Clip}
use Rattle.vault_core.specs.declared.offer.Offer.{Offer}
use Rattle.vault_core.specs.Questions.{alter}
use Rattle.vault_core.specs.Own.{Own, with_withdrawn}
use Rattle.vault_core.specs.Offer.{is_copy, matches_clip}
use Rattle.vault_core.specs.Rules.{is_offer, are_apart, open_grants, is_same_grant, KeepsOfferRules, KeepsOwnRules}
use Rattle.vault_core.proofs.RuleLemmas.{all-alter, numbered-alter}

-- fields that each row of a list has are had of another list, where the one follows from the other
all-weaker : {R : Type 0} (p q : R → Bool) → ((r : R) → p r ≡ true → q r ≡ true) → (rs : List R) → list_all p rs ≡ true
    → list_all q rs ≡ true
all-weaker p q step [] h = refl
all-weaker p q step (r ∷ rs) h =
    let first = step r (grind (arith, h)) in
    let rest = all-weaker p q step rs (grind (arith, h)) in
    grind (arith, first, rest)

-- a clip more behind those of a channel hides none of them
matches_clip-push : (plan : PlanRow) (o : Offer) (x y : Option Clip) → matches_clip plan o x ≡ true
    → matches_clip plan o (option_or x y) ≡ true
matches_clip-push plan o None y h = absurd (cc)
matches_clip-push plan o (Some k) y h = h

offer-push : (plan : PlanRow) (cs : List Clip) (c : Clip) (o : Offer) → is_offer plan cs o ≡ true
    → is_offer plan (cs ++ c ∷ []) o ≡ true
offer-push plan cs c o h =
    let there : matches_clip plan o (find (λ k. k.n == o.clip) cs) ≡ true = grind (arith, h) in
    let still : matches_clip plan o (find (λ k. k.n == o.clip) (cs ++ c ∷ [])) ≡ true =
    rw (find-append (λ (k : Clip). k.n == o.clip) cs (c ∷ []))
    (matches_clip-push plan o (find (λ k. k.n == o.clip) cs) (find (λ k. k.n == o.clip) (c ∷ [])) there) in
    grind (arith, h, still)

pub offers-push_clip : (plan : PlanRow) (cs : List Clip) (c : Clip) (os : List Offer) → KeepsOfferRules plan cs os
    → KeepsOfferRules plan (cs ++ c ∷ []) os
offers-push_clip plan cs c os rules = record {
  fields = all-weaker (is_offer plan cs) (is_offer plan (cs ++ c ∷ [])) (offer-push plan cs c) os rules.fields;
  at_most = rules.at_most;
  numbers = rules.numbers;
  grants = rules.grants;
}

-- a clip that is retired is offered as it was
abbrev retire : ℕ → Clip → Clip
retire n c = if c.n == n then record c { retired = true } else c

find-retire : (n m : ℕ) (cs : List Clip)
    → find (λ k. k.n == m) (map (retire n) cs) ≡ option_map (retire n) (find (λ k. k.n == m) cs)
find-retire n m [] = refl
find-retire n m (c ∷ cs) =
    elim (c.n == n)
    as (λ b. (c.n == n) ≡ b
    → (if (if b then record c { retired = true } else c).n == m
    then Some (if b then record c { retired = true } else c) else find (λ k. k.n == m) (map (retire n) cs))
    ≡ option_map (retire n) (if c.n == m then Some c else find (λ k. k.n == m) cs)) [
      | true ↦ λ e. elim (c.n == m)
          as (λ b. (if b then Some (record c { retired = true }) else find (λ k. k.n == m) (map (retire n) cs))
          ≡ option_map (retire n) (if b then Some c else find (λ k. k.n == m) cs)) [
            | true ↦ ap (λ b. Some (if b then record c { retired = true } else c)) (sym e)
            | false ↦ find-retire n m cs
          ]
      | false ↦ λ e. elim (c.n == m)
          as (λ b. (if b then Some c else find (λ k. k.n == m) (map (retire n) cs))
          ≡ option_map (retire n) (if b then Some c else find (λ k. k.n == m) cs)) [
            | true ↦ ap (λ b. Some (if b then record c { retired = true } else c)) (sym e)
            | false ↦ find-retire n m cs
          ]
    ] refl

matches_clip-retire : (plan : PlanRow) (o : Offer) (n : ℕ) (x : Option Clip)
    → matches_clip plan o (option_map (retire n) x) ≡ matches_clip plan o x
unfolding is_copy
matches_clip-retire plan o n None = refl
matches_clip-retire plan o n (Some k) =
    elim (k.n == n) as (λ b. is_copy plan o (if b then record k { retired = true } else k) ≡ is_copy plan o k)
    [ true ↦ refl | false ↦ refl ]

offer-retire : (plan : PlanRow) (cs : List Clip) (n : ℕ) (o : Offer) → is_offer plan cs o ≡ true
    → is_offer plan (map (retire n) cs) o ≡ true
offer-retire plan cs n o h =
    let same : matches_clip plan o (find (λ k. k.n == o.clip) (map (retire n) cs))
    ≡ matches_clip plan o (find (λ k. k.n == o.clip) cs) =
    ap (matches_clip plan o) (find-retire n o.clip cs) ∙ matches_clip-retire plan o n (find (λ k. k.n == o.clip) cs) in
    grind (arith, h, same)

pub offers-retire : (plan : PlanRow) (cs : List Clip) (n : ℕ) (os : List Offer) → KeepsOfferRules plan cs os
    → KeepsOfferRules plan (alter (λ c. c.n == n) (λ c. record c { retired = true }) cs) os
offers-retire plan cs n os rules = record {
  fields = all-weaker (is_offer plan cs) (is_offer plan (map (retire n) cs)) (offer-retire plan cs n) os rules.fields;
  at_most = rules.at_most;
  numbers = rules.numbers;
  grants = rules.grants;
}

-- an offer that is withdrawn has what its clip has still
matches_clip-withdrawn : (plan : PlanRow) (o : Offer) (x : Option Clip)
    → matches_clip plan (record o { withdrawn = true }) x ≡ matches_clip plan o x
unfolding is_copy
matches_clip-withdrawn plan o None = refl
matches_clip-withdrawn plan o (Some k) = refl

withdrawn_copy : (own : Own) (o : Offer) → is_offer own.plan own.clips o ≡ true
    → is_offer own.plan own.clips (record o { withdrawn = true }) ≡ true
withdrawn_copy own o h =
    let same : matches_clip own.plan (record o { withdrawn = true }) (find (λ c. c.n == o.clip) own.clips)
    ≡ matches_clip own.plan o (find (λ c. c.n == o.clip) own.clips) =
    matches_clip-withdrawn own.plan o (find (λ c. c.n == o.clip) own.clips) in
    grind (arith, h, same)

-- and it leaves the others apart
abbrev withdraw : ℕ → List Offer → List Offer
withdraw n os = alter (λ o. o.n == n) (λ o. record o { withdrawn = true }) os

abbrev grant_of : Offer → Option (ℕ × ℕ)
grant_of o = if o.withdrawn then None else Some (o.clip, o.grantee)

abbrev Grant : Type 0
Grant = ℕ × ℕ

-- a key more in front, or none
any_behind : (p : Grant → Bool) (x : Option Grant) (xs : List Grant) → list_any p (cons_option x xs) ≡ false
    → list_any p xs ≡ false
any_behind p None xs h = h
any_behind p (Some k) xs h = grind (arith, h)

any_front : (p : Grant → Bool) (x : Option Grant) (xs ys : List Grant) → list_any p (cons_option x xs) ≡ false
    → list_any p ys ≡ false → list_any p (cons_option x ys) ≡ false
any_front p None xs ys h none = none
any_front p (Some k) xs ys h none = grind (arith, h, none)

apart_behind : (x : Option Grant) (xs : List Grant) → are_apart is_same_grant (cons_option x xs) ≡ true
    → are_apart is_same_grant xs ≡ true
apart_behind None xs h = h
apart_behind (Some k) xs h = grind (arith, h)

apart_front : (x : Option Grant) (xs ys : List Grant) → are_apart is_same_grant (cons_option x xs) ≡ true
    → ((k : Grant) → list_any (is_same_grant k) xs ≡ false → list_any (is_same_grant k) ys ≡ false)
    → are_apart is_same_grant ys ≡ true → are_apart is_same_grant (cons_option x ys) ≡ true
apart_front None xs ys h left apart = apart
apart_front (Some k) xs ys h left apart =
    let none : list_any (is_same_grant k) ys ≡ false = left k (grind (arith, h)) in
    grind (arith, none, apart)

-- a key that none of the open offers has, none of them has once one is withdrawn
none_left : (n : ℕ) (p : Grant → Bool) (os : List Offer) → list_any p (open_grants os) ≡ false
    → list_any p (open_grants (withdraw n os)) ≡ false
none_left n p [] h = refl
none_left n p (o ∷ os) h =
    let rest = none_left n p os (any_behind p (grant_of o) (open_grants os) h) in
    elim (o.n == n)
    as (λ b. list_any p
    (cons_option (grant_of (cond b (record o { withdrawn = true }) o)) (open_grants (withdraw n os))) ≡ false) [
      | true ↦ rest
      | false ↦ any_front p (grant_of o) (open_grants os) (open_grants (withdraw n os)) h rest
    ]

apart_left : (n : ℕ) (os : List Offer) → are_apart is_same_grant (open_grants os) ≡ true
    → are_apart is_same_grant (open_grants (withdraw n os)) ≡ true
apart_left n [] h = refl
apart_left n (o ∷ os) h =
    let rest = apart_left n os (apart_behind (grant_of o) (open_grants os) h) in
    elim (o.n == n)
    as (λ b. are_apart is_same_grant
    (cons_option (grant_of (cond b (record o { withdrawn = true }) o)) (open_grants (withdraw n os))) ≡ true) [
      | true ↦ rest
      | false ↦ apart_front (grant_of o) (open_grants os) (open_grants (withdraw n os)) h
          (λ k. none_left n (is_same_grant k) os) rest
    ]

-- a channel's rules hold with an offer withdrawn
pub own-withdraw : (own : Own) (n : ℕ) → KeepsOwnRules own → KeepsOwnRules (with_withdrawn n own)
own-withdraw own n rules =
    let test : Offer → Bool = λ o. o.n == n in
    let change : Offer → Offer = λ o. record o { withdrawn = true } in
    record {
      plan = rules.plan;
      fields = rules.fields;
      at_most = rules.at_most;
      numbers = rules.numbers;
      barcodes = rules.barcodes;
      slots = rules.slots;
      clips = rules.clips;
      offers = record {
        fields =
            all-alter test change (is_offer own.plan own.clips) (λ o h. withdrawn_copy own o h) own.offers
            rules.offers.fields;
        at_most =
            rw (length-map own.offers (λ o. if o.n == n then record o { withdrawn = true } else o))
            rules.offers.at_most;
        numbers = numbered-alter test change (λ o. o.n) (λ o. refl) own.offers 1 rules.offers.numbers;
        grants = apart_left n own.offers rules.offers.grants;
      };
    }
