-- A channel's own rows keep the rules with the offer that a command makes.
use Rattle.std.proofs.Common.{◌≡◌, ℕ, ◌+◌, List, [], ◌∷◌, ◌++◌, length, Bool, true, false, not, cond, sym, ◌∙◌, ap}
use Rattle.std.proofs.Common.{subst, refl, arith}
use Rattle.std.specs.Prelude.{◌==◌, nat_lt, nat_le, find, Option, Some, None, Result, Ok, Err, bytes_eq, ◌||◌, ◌&&◌}
use Rattle.std.specs.Prelude.{if◌then◌else◌}
use Rattle.std.specs.List.{list_any, cons_option}
use Rattle.std.proofs.lemmas.Bool.Decides.{nat_tests}
use Rattle.std.proofs.lemmas.List.{length-append}
use Rattle.std.proofs.lemmas.List.Folds.{list_all-append}
use Rattle.timecode.proofs.RateLemmas.{rate_same}
use Rattle.umid.specs.BasicUmid.{basic_umid}
use Rattle.channel_plan.specs.declared.plan.PlanRow.{PlanRow}
use Rattle.channel_plan.specs.declared.refusal.Code.{Code}
use Rattle.channel_plan.specs.declared.refusal.Code.TheVariants.{BadChannel, ToSelf}
use Rattle.channel_plan.specs.declared.refusal.Refusal.{Refusal}
use Rattle.vault_core.specs.declared.clip.Clip.{Clip}
use Rattle.vault_core.specs.declared.offer.Offer.{Offer}
use Rattle.vault_core.specs.Own.{Own, own_seen, with_offer}
use Rattle.vault_core.specs.Window.{Window}
use Rattle.vault_core.specs.Offer.{granted_copy, granted_umid, is_copy, matches_clip, is_grantee, is_open_to}
use Rattle.vault_core.specs.Rules.{is_offer, open_grants, is_same_grant, KeepsOwnRules}
use Rattle.vault_core.proofs.RuleLemmas.{numbered-push, apart-push}
use Rattle.grant_core.specs.declared.clip_ref.ClipRef.{ClipRef}
use Rattle.grant_core.specs.declared.clip_ref.ClipRef.TheVariants.{Own as OwnClip, Lent, Unknown}
use Rattle.grant_core.specs.Offering.{offer_of, of_own_clip, grantee_for, to_grantee, offer_for}

-- a clip that was found by its number has it
found_number : (n : ℕ) (ks : List Clip) (k : Clip) → find (λ k. k.n == n) ks ≡ Some k → k.n ≡ n
found_number n [] k found = absurd (cc)
found_number n (u ∷ ks) k found =
    elim (u.n == n) as (λ b. (u.n == n) ≡ b → (if b then Some u else find (λ k. k.n == n) ks) ≡ Some k → k.n ≡ n) [
      | true ↦ λ is e. let same : u ≡ k = cc in subst (λ (v : Clip). v.n ≡ n) same (grind (arith, nat_tests, is))
      | false ↦ λ is e. found_number n ks k e
    ] refl found

-- the open offers, with one more
grants-push : (os : List Offer) (o : Offer) → o.withdrawn ≡ false
    → open_grants (os ++ o ∷ []) ≡ open_grants os ++ (o.clip, o.grantee) ∷ []
grants-push [] o stands = ap (λ w. cons_option (if w then None else Some (o.clip, o.grantee)) []) stands
grants-push (u ∷ os) o stands =
    let rest = grants-push os o stands in
    elim u.withdrawn
    as (λ w. cons_option (if w then None else Some (u.clip, u.grantee)) (open_grants (os ++ o ∷ []))
    ≡ cons_option (if w then None else Some (u.clip, u.grantee)) (open_grants os) ++ (o.clip, o.grantee) ∷ []) [
      | true ↦ rest
      | false ↦ ap (λ gs. (u.clip, u.grantee) ∷ gs) rest
    ]

-- no open one is of this clip to this grantee
grant_any : (n to : ℕ) (os : List Offer) → list_any (is_open_to n to) os ≡ false
    → list_any (λ g. is_same_grant g (n, to)) (open_grants os) ≡ false
grant_any n to [] h = refl
grant_any n to (u ∷ os) h =
    let rest = grant_any n to os (grind (arith, h)) in
    elim u.withdrawn
    as (λ w. (not w && (u.clip == n && u.grantee == to) || list_any (is_open_to n to) os) ≡ false
    → list_any (λ g. is_same_grant g (n, to))
    (cons_option (if w then None else Some (u.clip, u.grantee)) (open_grants os)) ≡ false) [
      | true ↦ λ e. rest
      | false ↦ λ e. grind (arith, e, rest)
    ] h

-- a copy has what its clip has
copy_of : (plan : PlanRow) (n to : ℕ) (w : Option Window) (k : Clip)
    → is_copy plan (granted_copy plan n to w k) k ≡ true
unfolding is_copy
copy_of plan n to w k =
    grind (
      arith,
      bytes_same k.title,
      bytes_same (basic_umid (granted_umid k.umid to)),
      rate_same plan.rate,
      number_same k.src_first,
      number_same k.frames,
    )
  where
    number_same : (a : ℕ) → (a == a) ≡ true
    number_same a = grind (arith, nat_tests)

    bytes_same : (text : List ℕ) → bytes_eq text text ≡ true
    bytes_same [] = refl
    bytes_same (b ∷ text) = let here = number_same b in let rest = bytes_same text in grind (arith, here, rest)

-- the tests that an offer passed
pub record Passed (own : Own) (n to : ℕ) (w : Option Window) (o : Offer) : Type 0 where
  pub clip : Clip
  pub found : find (λ k. k.n == n) own.clips ≡ Some clip
  pub grantee : is_grantee own.plan to ≡ true
  pub unoffered : list_any (is_open_to n to) own.offers ≡ false
  pub room : nat_le 9999 (length own.offers) ≡ false
  pub offer_is : granted_copy own.plan (length own.offers + 1) to w clip ≡ o

chain : (a b d : Bool) (v w x : Refusal) (s o : Offer) → cond a (Err v) (cond b (Err w) (cond d (Err x) (Ok s))) ≡ Ok o
    → (b ≡ false) × (d ≡ false) × (s ≡ o)
chain true b d v w x s o h = absurd (cc)
chain false true d v w x s o h = absurd (cc)
chain false false true v w x s o h = absurd (cc)
chain false false false v w x s o h = (refl, refl, cc)

passed_clip : (own : Own) (n to : ℕ) (w : Option Window) (o : Offer) (x : Option Clip) → is_grantee own.plan to ≡ true
    → find (λ k. k.n == n) own.clips ≡ x
    → of_own_clip (offer_of own.plan to w (list_any (is_open_to n to) own.offers) (length own.offers)) x ≡ Ok o
    → Passed own n to w o
passed_clip own n to w o None grantee found h = absurd (cc)
passed_clip own n to w o (Some k) grantee found h =
    let tests : (list_any (is_open_to n to) own.offers ≡ false) × (nat_le 9999 (length own.offers) ≡ false)
    × (granted_copy own.plan (length own.offers + 1) to w k ≡ o) = chain _ _ _ _ _ _ _ o h in
    record { clip = k; found = found; grantee = grantee; unoffered = tests.0; room = tests.1; offer_is = tests.2 }

-- the grantee, where it is one
passed_grantee : (own : Own) (n to : ℕ) (w : Option Window) (o : Offer) (a b : Bool) → (to == 0 || nat_lt 999 to) ≡ a
    → (to == own.plan.ch) ≡ b
    → to_grantee
    (λ g. of_own_clip (offer_of own.plan g w (list_any (is_open_to n to) own.offers) (length own.offers))
    (find (λ k. k.n == n) own.clips)) (if a then Err BadChannel else if b then Err ToSelf else Ok to) ≡ Ok o
    → Passed own n to w o
passed_grantee own n to w o true b low self h = absurd (cc)
passed_grantee own n to w o false true low self h = absurd (cc)
passed_grantee own n to w o false false low self h =
    let grantee : is_grantee own.plan to ≡ true = grind (arith, nat_tests, low, self) in
    passed_clip own n to w o (find (λ k. k.n == n) own.clips) grantee refl h

no_clip_named : (e : Result ℕ Code) (r : Refusal) (o : Offer) → to_grantee (λ g. Err r) e ≡ Ok o → ⊥
no_clip_named (Ok g) r o h = cc
no_clip_named (Err code) r o h = cc

-- a channel's rules hold with the offer of a clip that is there
keeps : (own : Own) (n to : ℕ) (w : Option Window) (o : Offer) → Passed own n to w o → KeepsOwnRules own
    → KeepsOwnRules (with_offer own o)
keeps own n to w o p rules =
    let made : Offer = granted_copy own.plan (length own.offers + 1) to w p.clip in
    let named : p.clip.n ≡ n = found_number n own.clips p.clip p.found in
    let there : find (λ k. k.n == made.clip) own.clips ≡ Some p.clip =
    subst (λ m. find (λ k. k.n == m) own.clips ≡ Some p.clip) (sym named) p.found in
    let copied : matches_clip own.plan made (find (λ k. k.n == made.clip) own.clips) ≡ true =
    ap (matches_clip own.plan made) there ∙ copy_of own.plan (length own.offers + 1) to w p.clip in
    let grantee : is_grantee own.plan to ≡ true = p.grantee in
    let one : is_offer own.plan own.clips made ≡ true = grind (arith, grantee, copied) in
    let room : nat_le 9999 (length own.offers) ≡ false = p.room in
    let none : list_any (λ g. is_same_grant g (made.clip, to)) (open_grants own.offers) ≡ false =
    subst (λ m. list_any (λ g. is_same_grant g (m, to)) (open_grants own.offers) ≡ false) (sym named)
    (grant_any n to own.offers p.unoffered) in
    subst (λ u. KeepsOwnRules (with_offer own u)) p.offer_is (record {
      plan = rules.plan;
      fields = rules.fields;
      at_most = rules.at_most;
      numbers = rules.numbers;
      barcodes = rules.barcodes;
      slots = rules.slots;
      clips = rules.clips;
      offers = record {
        fields =
            list_all-append (is_offer own.plan own.clips) own.offers (made ∷ [])
            ∙ grind (arith, one, rules.offers.fields);
        at_most = rw (length-append own.offers (made ∷ [])) (grind (arith, nat_tests, room));
        numbers = numbered-push (λ o. o.n) own.offers 1 made rules.offers.numbers (omega arith);
        grants =
            rw (grants-push own.offers made refl)
            (apart-push is_same_grant (open_grants own.offers) (made.clip, to) rules.offers.grants none);
      };
    })

-- and so with each that a command makes
pub own-offer : (own : Own) (clip : ClipRef) (to : ℕ) (w : Option Window) (o : Offer)
    → offer_for (own_seen own) clip to w ≡ Ok o → KeepsOwnRules own → KeepsOwnRules (with_offer own o)
unfolding offer_for
own-offer own Lent to w o made rules = absurd (cc)
own-offer own Unknown to w o made rules = absurd (no_clip_named (grantee_for own.plan to) _ o made)
own-offer own (OwnClip n) to w o made rules = keeps own n to w o (passed_grantee own n to w o _ _ refl refl made) rules
