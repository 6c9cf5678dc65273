-- Who lends to a channel, in a run and in what is left of it.
use Rattle.std.proofs.Common.{◌≡◌, ◌≢◌, ℕ, List, [], ◌∷◌, Bool, true, false, ◌&&◌, ◌||◌, refl, sym, ◌∙◌, ap, arith}
use Rattle.std.specs.Prelude.{find, ◌==◌, Option, Some, None, if◌then◌else◌}
use Rattle.std.specs.List.{list_any}
use Rattle.std.specs.Option.{option_map}
use Rattle.std.proofs.lemmas.Bool.Decides.{nat_tests}
use Rattle.std.proofs.lemmas.List.Folds.{list_any-append}
use Rattle.channel_plan.specs.declared.plan.PlanRow.{PlanRow}
use Rattle.vault_core.specs.declared.offer.Offer.{Offer}
use Rattle.vault_core.specs.Own.{Own}
use Rattle.grant_core.specs.declared.grant.Grant.{Grant}
use Rattle.channel_view_model.specs.declared.view.View.{View}
use Rattle.channel_view_model.specs.declared.command.Command.{Command}
use Rattle.channel_view_model.specs.declared.command.Change.{Change}
use Rattle.channel_view_model.specs.declared.command.Change.TheVariants.{Nothing, Vault as OnVault, Day as OnDay}
use Rattle.channel_view_model.specs.declared.command.Change.TheVariants.{Airing as OnAiring}
use Rattle.channel_view_model.specs.declared.command.VaultChange.TheVariants.{Tape as TapeRow, Clip as ClipRow}
use Rattle.channel_view_model.specs.declared.command.VaultChange.TheVariants.{Offer as OfferRow}
use Rattle.channel_view_model.specs.Tables.{Table, put}
use Rattle.channel_view_model.specs.Seen.{seen_in, grants_to}
use Rattle.channel_view_model.specs.Decide.{decision}
use Rattle.channel_view_model.specs.Centre.{Centre, Request, plan_of, seen_by, changed, after_at, after, view_at}
use Rattle.channel_view_model.specs.Centre.{view_of}
use Rattle.channel_view_model.specs.Rules.{is_planned, KeepsRules}
use Rattle.channel_view_model.specs.Solo.{Event, Asked, Granted, Withdrawn, view_after, solo_after, lent_after, heard}
use Rattle.channel_view_model.specs.Solo.{hears, own_part, events_of, owns_after, heard_of, feed_from, feed}
use Rattle.channel_view_model.specs.Solo.{is_grant_of, lends}
use Rattle.channel_view_model.proofs.ViewLemmas.{view_of-after_own, view_of-after_other}
use Rattle.channel_view_laws.proofs.LenderLemmas.{any_alter}
use Rattle.channel_view_laws.proofs.RunLemmas.{owns_next}
use Rattle.channel_view_laws.specs.Parts.{IsClosed}
use Rattle.channel_view_laws.proofs.PartTableLemmas.{equal}

-- ---- the plan stays

channels-changed : (c : ℕ) (ch : Change) (rows : Centre) → (changed c ch rows).channels ≡ rows.channels
unfolding changed
channels-changed c Nothing rows = refl
channels-changed c (OnVault put (TapeRow t)) rows = refl
channels-changed c (OnVault put (ClipRow k)) rows = refl
channels-changed c (OnVault put (OfferRow o)) rows = refl
channels-changed c (OnDay change) rows = refl
channels-changed c (OnAiring airing) rows = refl

channels-after : (rows : Centre) (r : Request) → (after rows r).channels ≡ rows.channels
unfolding after
channels-after rows r = under (plan_of r.0 rows)
  where
    under : (o : Option PlanRow) → (after_at o rows r).channels ≡ rows.channels
    under None = refl
    under (Some p) = channels-changed r.0 (decision (seen_by r.0 p rows) r.1).1 rows

pub plan_of-after : (c : ℕ) (rows : Centre) (r : Request) → plan_of c (after rows r) ≡ plan_of c rows
plan_of-after c rows r = ap (find (λ p. p.ch == c)) (channels-after rows r)

-- a channel of the plan has a row of it
planned_row : (c : ℕ) (plan : List PlanRow) → is_planned plan c ≡ true
    → (p : PlanRow) × (find (λ q. q.ch == c) plan ≡ Some p)
planned_row c [] h = absurd (cc)
planned_row c (q ∷ plan) h =
    elim (q.ch == c)
    as (λ b. (b || is_planned plan c) ≡ true
    → (p : PlanRow) × ((if b then Some q else find (λ q. q.ch == c) plan) ≡ Some p)) [
      | true ↦ λ e. (q, refl)
      | false ↦ λ e. planned_row c plan e
    ] h

-- ---- who owns the clips that a channel sees as lent

abbrev owns_one : ℕ → List Grant → Bool
owns_one b lent = list_any (λ g. g.owner == b) lent

abbrev lent_by : ℕ → Option View → Bool
lent_by b None = false
lent_by b (Some v) = owns_one b v.lent

or_false : (a : Bool) → a ≡ (a || false)
or_false true = refl
or_false false = refl

any-put : {R : Type 0} (p a : R → Bool) (x : R) (rs : List R) → list_any p (put a x rs) ≡ (list_any p rs || p x)
any-put p a x [] = elim (p x) as (λ b. (b || false) ≡ b) [ true ↦ refl | false ↦ refl ]
any-put p a x (r ∷ rs) = grind (arith, any-put p a x rs)

owns-lent_after : (b : ℕ) (e : Event) (lent : List Grant)
    → owns_one b (lent_after e lent) ≡ (owns_one b lent || is_grant_of b e)
unfolding lent_after
owns-lent_after b (Asked q) lent = or_false (owns_one b lent)
owns-lent_after b (Granted g) lent = any-put (λ h. h.owner == b) _ g lent
owns-lent_after b (Withdrawn owner n) lent =
    any_alter (λ g. g.owner == b) _ _ (λ g. refl) lent ∙ or_false (owns_one b lent)

lent_by-hears : (b : ℕ) (es : List Event) (v : View)
    → lent_by b (hears es (Some v)) ≡ (owns_one b v.lent || list_any (is_grant_of b) es)
lent_by-hears b [] v = or_false (owns_one b v.lent)
lent_by-hears b (e ∷ es) v =
    lent_by-hears b es (heard e v)
    ∙ ap (λ x. x || list_any (is_grant_of b) es) (owns-lent_after b e v.lent)
    ∙ or_or (owns_one b v.lent) (is_grant_of b e) (list_any (is_grant_of b) es)
  where
    or_or : (x y z : Bool) → ((x || y) || z) ≡ (x || (y || z))
    or_or true y z = refl
    or_or false y z = refl

-- a command of its own leaves them
lent_by-solo_after : (b : ℕ) (q : Command) (v : View) → lent_by b (solo_after (Some v) q) ≡ owns_one b v.lent
unfolding solo_after
lent_by-solo_after b q v = by (decision (seen_in v) q).1
  where
    by : (ch : Change) → owns_one b (view_after ch v).lent ≡ owns_one b v.lent
    by Nothing = refl
    by (OnVault put change) = refl
    by (OnDay change) = refl
    by (OnAiring airing) = refl

-- ---- who offers to a channel of the plan

offers-lent : (b c : ℕ) (t : Table Offer) → list_any (λ r. r.0 == b && r.1.grantee == c) t ≡ owns_one b (grants_to c t)
offers-lent b c [] = refl
offers-lent b c (r ∷ rs) = grind (arith, offers-lent b c rs)

seen-planned : (c : ℕ) (rows : Centre) (p : PlanRow) → plan_of c rows ≡ Some p
    → view_of c rows ≡ Some (view_at c rows p)
unfolding view_of
seen-planned c rows p known = ap (option_map (view_at c rows)) known

offers-seen : (b c : ℕ) (rows : Centre) (p : PlanRow) → plan_of c rows ≡ Some p
    → list_any (λ r. r.0 == b && r.1.grantee == c) rows.offers ≡ lent_by b (view_of c rows)
offers-seen b c rows p known = offers-lent b c rows.offers ∙ sym (ap (lent_by b) (seen-planned c rows p known))

-- after a request: those before, and who offers by it
module _ (b c : ℕ) (rows : Centre) (p : PlanRow) (known : plan_of c rows ≡ Some p) (rules : KeepsRules rows)
    (r : Request) where
  lent_by-after : lent_by b (view_of c (after rows r))
      ≡ (owns_one b (grants_to c rows.offers)
      || list_any (is_grant_of b) (heard_of c (λ d. own_part (view_of d rows)) r))
  lent_by-after =
      elim (r.0 == c)
      as (λ v. (r.0 == c) ≡ v
      → lent_by b (view_of c (after rows r))
      ≡ (owns_one b (grants_to c rows.offers)
      || list_any (is_grant_of b)
      (if v then Asked r.1 ∷ [] else events_of c r.0 (own_part (view_of r.0 rows)) r.1))) [
        | true ↦ λ e.
            ap (λ d. lent_by b (view_of c (after rows (d, r.1)))) (equal r.0 c e)
            ∙ ap (lent_by b)
            (view_of-after_own c r.1 rows rules ∙ ap (λ v. solo_after v r.1) (seen-planned c rows p known))
            ∙ lent_by-solo_after b r.1 (view_at c rows p)
            ∙ or_false (owns_one b (grants_to c rows.offers))
        | false ↦ λ e.
            ap (lent_by b)
            (view_of-after_other c r.0 r.1 rows rules (differ e)
            ∙ ap (hears (events_of c r.0 (own_part (view_of r.0 rows)) r.1)) (seen-planned c rows p known))
            ∙ lent_by-hears b (events_of c r.0 (own_part (view_of r.0 rows)) r.1) (view_at c rows p)
      ] refl
    where
      differ : (r.0 == c) ≡ false → r.0 ≢ c
      differ e h = grind (arith, nat_tests, e, h)

-- who lends to a channel of the plan in what is left of a run lends to it in the run, and the other way round
lends-after : (b c : ℕ) (rows : Centre) (p : PlanRow) → plan_of c rows ≡ Some p → KeepsRules rows
    → (r : Request) (rs : List Request) → lends c (after rows r) rs b ≡ lends c rows (r ∷ rs) b
unfolding lends
lends-after b c rows p known rules r rs =
    ap (λ x. x || list_any (is_grant_of b) (feed c (after rows r) rs))
    (offers-seen b c (after rows r) p (plan_of-after c rows r ∙ known) ∙ lent_by-after b c rows p known rules r
    ∙ ap (λ x. x || list_any (is_grant_of b) (heard_of c owns r)) (sym (offers-lent b c rows.offers)))
    ∙ or_or (list_any (λ s. s.0 == b && s.1.grantee == c) rows.offers) (list_any (is_grant_of b) (heard_of c owns r))
    (list_any (is_grant_of b) (feed c (after rows r) rs))
    ∙ ap
    (λ es. list_any (λ s. s.0 == b && s.1.grantee == c) rows.offers
    || (list_any (is_grant_of b) (heard_of c owns r) || list_any (is_grant_of b) es)) (sym same)
    ∙ ap (λ x. list_any (λ s. s.0 == b && s.1.grantee == c) rows.offers || x)
    (sym (list_any-append (is_grant_of b) (heard_of c owns r) (feed_from c (owns_after owns r) rs)))
  where
    owns : ℕ → Option Own
    owns d = own_part (view_of d rows)

    or_or : (x y z : Bool) → ((x || y) || z) ≡ (x || (y || z))
    or_or true y z = refl
    or_or false y z = refl

    same : feed_from c (owns_after owns r) rs ≡ feed c (after rows r) rs
    same = ap (λ (os : ℕ → Option Own). feed_from c os rs) (λ i d. owns_next owns r rows rules (λ d. refl) d i)

-- a part that is closed in a run is closed in what is left of it
pub closed-after : (mine : ℕ → Bool) (rows : Centre) → KeepsRules rows → (r : Request) (rs : List Request)
    → IsClosed mine rows (r ∷ rs) → IsClosed mine (after rows r) rs
closed-after mine rows rules r rs closed c b is planned lent =
    let here : is_planned rows.channels c ≡ true =
    ap (λ plan. is_planned plan c) (sym (channels-after rows r)) ∙ planned in
    let row = planned_row c rows.channels here in
    closed c b is here (sym (lends-after b c rows row.0 row.1 rules r rs) ∙ lent)
