-- A command on offers: the row that it puts may be put, the rows keep the rules, and sent again it is refused, as done
-- already.
use Rattle.std.proofs.Common.{◌≡◌, ℕ, ◌+◌, List, [], ◌∷◌, ◌++◌, length, Bool, true, false, ◌||◌, cond, refl, sym, ◌∙◌}
use Rattle.std.proofs.Common.{ap, subst, arith}
use Rattle.std.specs.Prelude.{◌==◌, nat_lt, nat_le, find, Option, Some, None, Result, Ok, Err, not, if◌then◌else◌}
use Rattle.std.specs.List.{list_any}
use Rattle.std.proofs.lemmas.Bool.Decides.{nat_tests}
use Rattle.channel_plan.specs.declared.refusal.Code.{Code}
use Rattle.channel_plan.specs.declared.refusal.Code.TheVariants.{AlreadyOffered, OffersFull, NoClip, ClipRetired}
use Rattle.channel_plan.specs.declared.refusal.Code.TheVariants.{Withdrawn, BadChannel, ToSelf}
use Rattle.channel_plan.specs.declared.refusal.Refusal.{Refusal}
use Rattle.channel_plan.specs.Refusal.{refused}
use Rattle.vault_core.specs.declared.clip.Clip.{Clip}
use Rattle.vault_core.specs.declared.offer.Offer.{Offer}
use Rattle.vault_core.specs.declared.command.Put.TheVariants.{Added, Changed}
use Rattle.vault_core.specs.Window.{Window}
use Rattle.vault_core.specs.Questions.{alter}
use Rattle.vault_core.specs.Own.{Own, own_seen, with_offer, with_withdrawn}
use Rattle.vault_core.specs.Rules.{KeepsOwnRules}
use Rattle.vault_core.specs.Offer.{granted_copy, is_open_to}
use Rattle.vault_core.specs.Command.{offer_put}
use Rattle.vault_core.proofs.OfferRuleLemmas.{own-withdraw}
use Rattle.vault_core.proofs.PutLemmas.{put_last, put_changed}
use Rattle.vault_core.proofs.AgainLemmas.{passes, ok_is, itself, any_last, has_its_number, found_altered}
use Rattle.grant_core.specs.declared.clip_ref.ClipRef.{ClipRef}
use Rattle.grant_core.specs.declared.clip_ref.ClipRef.TheVariants.{Own as OwnClip, Lent, Unknown}
use Rattle.grant_core.specs.declared.command.OfferCommand.{OfferCommand}
use Rattle.grant_core.specs.declared.command.OfferCommand.TheVariants as offers
use Rattle.grant_core.specs.ClipRef.{clip_ref}
use Rattle.grant_core.specs.Offering.{offer_of, of_own_clip, grantee_for, to_grantee, offer_for, as_withdrawn, of_offer}
use Rattle.grant_core.specs.Offering.{withdrawn_offer}
use Rattle.grant_core.specs.Command.{offer_decided, offer_is_put, offer_done, OfferMayBePut}
use Rattle.grant_core.proofs.RuleLemmas.{own-offer}

-- ---- sent again

offer_again : (own : Own) (clip : ClipRef) (to : ℕ) (w : Option Window) (o : Offer)
    → offer_for (own_seen own) clip to w ≡ Ok o
    → offer_for (own_seen (with_offer own o)) clip to w ≡ Err (refused AlreadyOffered)
unfolding offer_for
offer_again own Lent to w o made = absurd (cc)
offer_again own Unknown to w o made = absurd (by (grantee_for own.plan to) made)
  where
    by : (g : Result ℕ Code) → to_grantee (λ g. Err (refused NoClip)) g ≡ Ok o → ⊥
    by (Ok g) h = cc
    by (Err code) h = cc
offer_again own (OwnClip n) to w o made = by (grantee_for own.plan to) refl made
  where
    again : ℕ → Clip → Result Offer Refusal
    again g = offer_of own.plan g w (list_any (is_open_to n to) (own.offers ++ o ∷ [])) (length (own.offers ++ o ∷ []))

    grantee_is : (g : ℕ) → grantee_for own.plan to ≡ Ok g → to ≡ g
    grantee_is g h =
        let channel = passes (to == 0 || nat_lt 999 to) _ _ g h in
        let other = passes (to == own.plan.ch) _ _ g channel.1 in
        ok_is _ _ other.1

    of_found : (g : ℕ) → to ≡ g → (c : Option Clip) → find (λ k. k.n == n) own.clips ≡ c
        → of_own_clip (offer_of own.plan g w (list_any (is_open_to n to) own.offers) (length own.offers)) c ≡ Ok o
        → of_own_clip (again g) c ≡ Err (refused AlreadyOffered)
    of_found g is None found h = absurd (cc)
    of_found g is (Some k) found h =
        let on = passes k.retired _ _ o h in
        let new = passes (list_any (is_open_to n to) own.offers) _ _ o on.1 in
        let room = passes (nat_le 9999 (length own.offers)) _ _ o new.1 in
        let same : granted_copy own.plan (length own.offers + 1) g w k ≡ o = ok_is _ _ room.1 in
        let named : (k.n == n) ≡ true =
        ap (λ m. m == n) (has_its_number (λ (v : Clip). v.n) n own.clips k found) ∙ itself n in
        let grantee : (g == to) ≡ true = ap (λ m. m == to) (sym is) ∙ itself to in
        let stands : is_open_to n to o ≡ true =
        subst (λ (x : Offer). is_open_to n to x ≡ true) same (grind (arith, named, grantee)) in
        ap (λ b. cond b (Err (refused ClipRetired))
        (cond (list_any (is_open_to n to) (own.offers ++ o ∷ [])) (Err (refused AlreadyOffered)) (behind g k))) on.0
        ∙ ap (λ b. cond b (Err (refused AlreadyOffered)) (behind g k)) (any_last (is_open_to n to) own.offers o stands)
      where
        behind : ℕ → Clip → Result Offer Refusal
        behind g k =
            if nat_le 9999 (length (own.offers ++ o ∷ [])) then Err (refused OffersFull)
            else Ok (granted_copy own.plan (length (own.offers ++ o ∷ []) + 1) g w k)

    by : (g : Result ℕ Code) → grantee_for own.plan to ≡ g
        → to_grantee
        (λ g. of_own_clip (offer_of own.plan g w (list_any (is_open_to n to) own.offers) (length own.offers))
        (find (λ k. k.n == n) own.clips)) g ≡ Ok o
        → to_grantee (λ g. of_own_clip (again g) (find (λ k. k.n == n) own.clips)) g ≡ Err (refused AlreadyOffered)
    by (Err code) is h = absurd (cc)
    by (Ok g) is h = of_found g (grantee_is g is) (find (λ k. k.n == n) own.clips) refl h

withdraw_again : (own : Own) (n : ℕ) (o : Offer) → withdrawn_offer (own_seen own) n ≡ Ok o
    → withdrawn_offer (own_seen (with_withdrawn o.n own)) n ≡ Err (refused Withdrawn)
unfolding withdrawn_offer
withdraw_again own n o made = by (find (λ x. x.n == n) own.offers) refl made
  where
    by : (x : Option Offer) → find (λ x. x.n == n) own.offers ≡ x → of_offer as_withdrawn x ≡ Ok o
        → of_offer as_withdrawn (find (λ x. x.n == n) (with_withdrawn o.n own).offers) ≡ Err (refused Withdrawn)
    by None found h = absurd (cc)
    by (Some x) found h =
        let open_before = passes x.withdrawn _ _ o h in
        let same : record x { withdrawn = true } ≡ o = ok_is _ _ open_before.1 in
        let named : o.n ≡ n =
        ap (λ (v : Offer). v.n) (sym same) ∙ has_its_number (λ (v : Offer). v.n) n own.offers x found in
        ap (λ m. of_offer as_withdrawn
        (find (λ x. x.n == n) (alter (λ x. x.n == m) (λ x. record x { withdrawn = true }) own.offers))) named
        ∙ ap (of_offer as_withdrawn)
        (found_altered (λ (v : Offer). v.n) (λ x. record x { withdrawn = true }) (λ x. refl) n own.offers x found)

-- ---- the row that is put

next_offer : (own : Own) (clip : ClipRef) (to : ℕ) (w : Option Window) (o : Offer)
    → offer_for (own_seen own) clip to w ≡ Ok o → (o.n ≡ length own.offers + 1) × (o.withdrawn ≡ false)
unfolding offer_for
next_offer own Lent to w o made = absurd (cc)
next_offer own Unknown to w o made = absurd (by (grantee_for own.plan to) made)
  where
    by : (g : Result ℕ Code) → to_grantee (λ g. Err (refused NoClip)) g ≡ Ok o → ⊥
    by (Ok g) h = absurd (cc)
    by (Err code) h = absurd (cc)
next_offer own (OwnClip n) to w o made = by (grantee_for own.plan to) made
  where
    of_found : (g : ℕ) (c : Option Clip)
        → of_own_clip (offer_of own.plan g w (list_any (is_open_to n to) own.offers) (length own.offers)) c ≡ Ok o
        → (o.n ≡ length own.offers + 1) × (o.withdrawn ≡ false)
    of_found g None h = absurd (cc)
    of_found g (Some k) h =
        let on = passes k.retired _ _ o h in
        let new = passes (list_any (is_open_to n to) own.offers) _ _ o on.1 in
        let room = passes (nat_le 9999 (length own.offers)) _ _ o new.1 in
        let same : granted_copy own.plan (length own.offers + 1) g w k ≡ o = ok_is _ _ room.1 in
        (ap (λ (x : Offer). x.n) (sym same), ap (λ (x : Offer). x.withdrawn) (sym same))

    by : (g : Result ℕ Code)
        → to_grantee
        (λ g. of_own_clip (offer_of own.plan g w (list_any (is_open_to n to) own.offers) (length own.offers))
        (find (λ k. k.n == n) own.clips)) g ≡ Ok o → (o.n ≡ length own.offers + 1) × (o.withdrawn ≡ false)
    by (Err code) h = absurd (cc)
    by (Ok g) h = of_found g (find (λ k. k.n == n) own.clips) h

is_withdrawn : (own : Own) (n : ℕ) (o : Offer) → withdrawn_offer (own_seen own) n ≡ Ok o → OfferMayBePut Changed o own
unfolding withdrawn_offer
is_withdrawn own n o made = by (find (λ x. x.n == n) own.offers) refl made
  where
    by : (x : Option Offer) → find (λ x. x.n == n) own.offers ≡ x → of_offer as_withdrawn x ≡ Ok o
        → OfferMayBePut Changed o own
    by None found h = absurd (cc)
    by (Some x) found h =
        let open_before = passes x.withdrawn _ _ o h in
        let same : record x { withdrawn = true } ≡ o = ok_is _ _ open_before.1 in
        let named : o.n ≡ n =
        ap (λ (v : Offer). v.n) (sym same) ∙ has_its_number (λ (v : Offer). v.n) n own.offers x found in
        (x, subst (λ m. find (λ (v : Offer). v.n == m) own.offers ≡ Some x) (sym named) found, same)

offer_added : (own : Own) (o : Offer) → KeepsOwnRules own → o.n ≡ length own.offers + 1
    → offer_put o own ≡ with_offer own o
offer_added own o rules last =
    λ i. record own { offers = put_last (λ (x : Offer). x.n) own.offers 1 o rules.offers.numbers last i }

offer_withdrawn : (own : Own) (o : Offer) → OfferMayBePut Changed o own → KeepsOwnRules own
    → offer_put o own ≡ with_withdrawn o.n own
offer_withdrawn own o may rules =
    λ i. record own {
      offers =
          put_changed (λ (x : Offer). x.n) (λ x. record x { withdrawn = true }) own.offers 1 may.0 o
          rules.offers.numbers
          may.1 may.2 i;
    }

pub offer_may_be_put : (own : Own) (q : OfferCommand) (o : Offer) → offer_decided (own_seen own) q ≡ Ok o
    → OfferMayBePut (offer_is_put q) o own
offer_may_be_put own (offers.Make clip to w) o made = next_offer own (clip_ref clip) to w o made
offer_may_be_put own (offers.Withdraw n) o made = is_withdrawn own n o made

pub offer_kept : (own : Own) (q : OfferCommand) (o : Offer) → offer_decided (own_seen own) q ≡ Ok o → KeepsOwnRules own
    → KeepsOwnRules (offer_put o own)
offer_kept own (offers.Make clip to w) o made rules =
    subst KeepsOwnRules (sym (offer_added own o rules (next_offer own (clip_ref clip) to w o made).0))
    (own-offer own (clip_ref clip) to w o made rules)
offer_kept own (offers.Withdraw n) o made rules =
    subst KeepsOwnRules (sym (offer_withdrawn own o (is_withdrawn own n o made) rules)) (own-withdraw own o.n rules)

pub offer_once : (own : Own) (q : OfferCommand) (o : Offer) → KeepsOwnRules own → offer_decided (own_seen own) q ≡ Ok o
    → offer_decided (own_seen (offer_put o own)) q ≡ Err (refused (offer_done q))
offer_once own (offers.Make clip to w) o rules made =
    ap (λ (x : Own). offer_for (own_seen x) (clip_ref clip) to w)
    (offer_added own o rules (next_offer own (clip_ref clip) to w o made).0)
    ∙ offer_again own (clip_ref clip) to w o made
offer_once own (offers.Withdraw n) o rules made =
    ap (λ (x : Own). withdrawn_offer (own_seen x) n) (offer_withdrawn own o (is_withdrawn own n o made) rules)
    ∙ withdraw_again own n o made
