-- A channel that only withdraws had lent before: so the owners of lent clips are those of the rows, and those of an
-- offer in the feed.
use Rattle.std.proofs.Common.{◌≡◌, ℕ, List, [], ◌∷◌, Bool, true, false, ◌&&◌, ◌||◌, refl, sym, ◌∙◌, ap, arith}
use Rattle.std.specs.Prelude.{◌==◌, nat_lt, find, Option, Some, None, if◌then◌else◌}
use Rattle.std.specs.List.{list_any}
use Rattle.std.specs.Option.{option_map}
use Rattle.std.proofs.lemmas.Bool.Decides.{nat_tests}
use Rattle.std.proofs.lemmas.List.Folds.{list_any-append}
use Rattle.channel_plan.specs.declared.plan.PlanRow.{PlanRow}
use Rattle.vault_core.specs.declared.offer.Offer.{Offer}
use Rattle.vault_core.specs.declared.command.Put.{Put}
use Rattle.vault_core.specs.declared.command.Put.TheVariants.{Added, Changed}
use Rattle.vault_core.specs.Questions.{alter, replaced}
use Rattle.grant_core.specs.Command.{OfferMayBePut}
use Rattle.channel_view_model.proofs.OwnRuleLemmas.{ChangeMayBe, change_may_be}
use Rattle.vault_core.specs.Own.{Own}
use Rattle.channel_view_model.specs.declared.command.Command.{Command}
use Rattle.channel_view_model.specs.declared.command.Change.{Change}
use Rattle.channel_view_model.specs.declared.command.Change.TheVariants.{Nothing, Vault as OnVault, Day as OnDay}
use Rattle.channel_view_model.specs.declared.command.Change.TheVariants.{Airing as OnAiring}
use Rattle.channel_view_model.specs.declared.command.VaultChange.TheVariants.{Tape as TapeRow, Clip as ClipRow}
use Rattle.channel_view_model.specs.declared.command.VaultChange.TheVariants.{Offer as OfferRow}
use Rattle.channel_view_model.specs.Tables.{Table, rows_of}
use Rattle.channel_view_model.specs.Centre.{Centre, Request, plan_of, view_of, view_at}
use Rattle.channel_view_model.specs.Solo.{Event, Asked, Granted, Withdrawn, event_of_offer, own_part, own_step}
use Rattle.channel_view_model.specs.Solo.{change_of, changed_own, events_of_change, events_of, owns_after, heard_of}
use Rattle.channel_view_model.specs.Solo.{feed_from, feed, is_grant_of}

-- an offer or a withdrawal by b
abbrev pub is_event_of : ℕ → Event → Bool
is_event_of b (Asked q) = false
is_event_of b (Granted g) = g.owner == b
is_event_of b (Withdrawn owner n) = owner == b

abbrev pub lends_to : ℕ → Own → Bool
lends_to c own = list_any (λ o. o.grantee == c) own.offers

abbrev pub may_lend : ℕ → Option Own → Bool
may_lend c None = false
may_lend c (Some own) = lends_to c own

pub any_alter : {R : Type 0} (p q : R → Bool) (g : R → R) → ((r : R) → p (g r) ≡ p r) → (rs : List R)
    → list_any p (alter q g rs) ≡ list_any p rs
any_alter p q g keeps [] = refl
any_alter p q g keeps (r ∷ rs) = grind (arith, keeps r, any_alter p q g keeps rs)

-- a row that is put among others passes a test, or none does
none_put : (p : Offer → Bool) (o : Offer) (os : List Offer) → p o ≡ false → list_any p os ≡ false
    → list_any p (replaced (λ (u : Offer). u.n) o os) ≡ false
none_put p o [] fails none = grind (arith, fails)
none_put p o (u ∷ os) fails none = by (u.n == o.n) (nat_lt o.n u.n) (none_put p o os fails (grind (arith, none)))
  where
    by : (a b : Bool) → list_any p (replaced (λ (u : Offer). u.n) o os) ≡ false
        → list_any p (if a then o ∷ os else if b then o ∷ u ∷ os else u ∷ replaced (λ (u : Offer). u.n) o os) ≡ false
    by true b rest = grind (arith, fails, none)
    by false true rest = grind (arith, fails, none)
    by false false rest = grind (arith, none, rest)

-- an offer to a channel to which one lends nothing is one more, or it was to another
granted_first : (c b : ℕ) (own : Own) (put : Put) (o : Offer) → OfferMayBePut put o own → lends_to c own ≡ false
    → list_any (is_grant_of b) (if o.grantee == c then event_of_offer b o ∷ [] else []) ≡ false
    → (o.grantee == c) ≡ false
granted_first c b own Added o may h g = by (o.grantee == c) g
  where
    by : (v : Bool) → list_any (is_grant_of b) (if v then event_of_offer b o ∷ [] else []) ≡ false → v ≡ false
    by false e = refl
    by true e =
        let here : is_grant_of b (event_of_offer b o) ≡ true =
        ap (λ w. is_grant_of b (if w then Withdrawn b o.n else Granted (record { owner = b; offer = o }))) may.1
        ∙ grind (arith, nat_tests) in grind (arith, e, here)
granted_first c b own Changed o may h g =
    ap (λ (x : Offer). x.grantee == c) (sym may.2)
    ∙ found_fails (λ (x : Offer). x.grantee == c) (λ u. u.n == o.n) own.offers may.0 h may.1
  where
    found_fails : (p q : Offer → Bool) (os : List Offer) (x : Offer) → list_any p os ≡ false → find q os ≡ Some x
        → p x ≡ false
    found_fails p q [] x none found = absurd (cc)
    found_fails p q (u ∷ os) x none found =
        elim (q u) as (λ v. (if v then Some u else find q os) ≡ Some x → p x ≡ false) [
          | true ↦ λ e. let same : u ≡ x = cc in ap p (sym same) ∙ grind (arith, none)
          | false ↦ λ e. found_fails p q os x (grind (arith, none)) e
        ] found

-- who lends c nothing and does not offer to it has no event, and still lends it nothing
told_silent : (c b : ℕ) (own : Own) (ch : Change) → ChangeMayBe ch own → lends_to c own ≡ false
    → list_any (is_grant_of b) (events_of_change c b ch) ≡ false
    → (events_of_change c b ch ≡ []) × (lends_to c (changed_own ch own) ≡ false)
told_silent c b own Nothing may h g = (refl, h)
told_silent c b own (OnDay day) may h g = (refl, h)
told_silent c b own (OnAiring airing) may h g = (refl, h)
told_silent c b own (OnVault put (TapeRow t)) may h g = (refl, h)
told_silent c b own (OnVault put (ClipRow k)) may h g = (refl, h)
told_silent c b own (OnVault put (OfferRow o)) may h g =
    let no : (o.grantee == c) ≡ false = granted_first c b own put o may h g in
    (ap (λ v. if v then event_of_offer b o ∷ [] else []) no, none_put (λ x. x.grantee == c) o own.offers no h)

events_silent : (c b : ℕ) (own : Option Own) (q : Command) → may_lend c own ≡ false
    → list_any (is_grant_of b) (events_of c b own q) ≡ false
    → (events_of c b own q ≡ []) × (may_lend c (own_step own q) ≡ false)
unfolding events_of
events_silent c b None q h g = (refl, refl)
events_silent c b (Some own) q h g = told_silent c b own (change_of own q) (change_may_be own q) h g

-- another's event isn't b's
event_other : (b d : ℕ) (o : Offer) → (b == d) ≡ false → is_event_of d (event_of_offer b o) ≡ false
event_other b d o e =
    elim o.withdrawn
    as (λ w. is_event_of d (if w then Withdrawn b o.n else Granted (record { owner = b; offer = o })) ≡ false)
    [ true ↦ e | false ↦ e ]

told_other : (c b d : ℕ) (ch : Change) → (b == d) ≡ false → list_any (is_event_of d) (events_of_change c b ch) ≡ false
told_other c b d Nothing e = refl
told_other c b d (OnDay day) e = refl
told_other c b d (OnAiring airing) e = refl
told_other c b d (OnVault put (TapeRow t)) e = refl
told_other c b d (OnVault put (ClipRow k)) e = refl
told_other c b d (OnVault put (OfferRow o)) e = grind (arith, event_other b d o e)

events_other : (c b d : ℕ) (own : Option Own) (q : Command) → (b == d) ≡ false
    → list_any (is_event_of d) (events_of c b own q) ≡ false
unfolding events_of
events_other c b d None q e = refl
events_other c b d (Some own) q e = told_other c b d (change_of own q) e

or_left : (a b : Bool) → (a || b) ≡ false → a ≡ false
or_left true b h = h
or_left false b h = refl

or_right : (a b : Bool) → (a || b) ≡ false → b ≡ false
or_right true b h = absurd (cc)
or_right false b h = h

equal : (a b : ℕ) → (a == b) ≡ true → a ≡ b
equal a b e = grind (arith, nat_tests, e)

silent_from : (c b : ℕ) → (b == c) ≡ false → (rs : List Request) (owns : ℕ → Option Own) → may_lend c (owns b) ≡ false
    → list_any (is_grant_of b) (feed_from c owns rs) ≡ false → list_any (is_event_of b) (feed_from c owns rs) ≡ false
silent_from c b other [] owns lends g = refl
silent_from c b other (r ∷ rs) owns lends g =
    let rest : list_any (is_grant_of b) (feed_from c (owns_after owns r) rs) ≡ false =
    or_right _ _
    (sym (list_any-append (is_grant_of b) (heard_of c owns r) (feed_from c (owns_after owns r) rs)) ∙ g) in
    let here : list_any (is_grant_of b) (heard_of c owns r) ≡ false =
    or_left _ _ (sym (list_any-append (is_grant_of b) (heard_of c owns r) (feed_from c (owns_after owns r) rs)) ∙ g)
    in
    let both : (list_any (is_event_of b) (heard_of c owns r) ≡ false) × (may_lend c (owns_after owns r b) ≡ false) =
    one here in
    list_any-append (is_event_of b) (heard_of c owns r) (feed_from c (owns_after owns r) rs)
    ∙ ap (λ v. v || list_any (is_event_of b) (feed_from c (owns_after owns r) rs)) both.0
    ∙ silent_from c b other rs (owns_after owns r) both.1 rest
  where
    one : list_any (is_grant_of b) (heard_of c owns r) ≡ false
        → (list_any (is_event_of b) (heard_of c owns r) ≡ false) × (may_lend c (owns_after owns r b) ≡ false)
    one here =
        elim (r.0 == b)
        as (λ v. (r.0 == b) ≡ v
        → (list_any (is_event_of b) (heard_of c owns r) ≡ false)
        × (may_lend c (if v then own_step (owns b) r.1 else owns b) ≡ false)) [
          | true ↦ λ e.
              let heard : heard_of c owns r ≡ events_of c b (owns b) r.1 =
              ap (λ x. heard_of c owns (x, r.1)) (equal r.0 b e)
              ∙ ap (λ v. if v then Asked r.1 ∷ [] else events_of c b (owns b) r.1) other in
              let s = events_silent c b (owns b) r.1 lends (ap (list_any (is_grant_of b)) (sym heard) ∙ here) in
              (ap (list_any (is_event_of b)) (heard ∙ s.0), s.1)
          | false ↦ λ e. (
            elim (r.0 == c)
                as (λ v. list_any (is_event_of b) (if v then Asked r.1 ∷ [] else events_of c r.0 (owns r.0) r.1)
                ≡ false)
                [ true ↦ refl | false ↦ events_other c r.0 b (owns r.0) r.1 e ],
            lends,
          )
        ] refl

lends_at : (c b : ℕ) (t : Table Offer)
    → list_any (λ r. r.0 == b && r.1.grantee == c) t ≡ list_any (λ o. o.grantee == c) (rows_of b t)
lends_at c b [] = refl
lends_at c b (r ∷ rs) = grind (arith, lends_at c b rs)

-- who has no grant to c in the rows and offers it nothing has no event in the feed
pub silent : (c b : ℕ) (rows : Centre) (rs : List Request) → (b == c) ≡ false
    → list_any (λ r. r.0 == b && r.1.grantee == c) rows.offers ≡ false
    → list_any (is_grant_of b) (feed c rows rs) ≡ false → list_any (is_event_of b) (feed c rows rs) ≡ false
unfolding view_of
silent c b rows rs other none g = silent_from c b other rs (λ b. own_part (view_of b rows)) start g
  where
    under : (p : Option PlanRow) → may_lend c (own_part (option_map (view_at b rows) p)) ≡ false
    under None = refl
    under (Some p) = sym (lends_at c b rows.offers) ∙ none

    start : may_lend c (own_part (view_of b rows)) ≡ false
    start = under (plan_of b rows)
