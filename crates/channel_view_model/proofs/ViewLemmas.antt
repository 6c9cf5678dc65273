-- One request: what it does to what each channel sees.
use Rattle.std.proofs.Common.{◌≡◌, ◌≢◌, ℕ, List, [], ◌∷◌, true, false, ◌&&◌, refl, sym, ◌∙◌, ap, subst, arith}
use Rattle.std.specs.Prelude.{find, ◌==◌, Option, Some, None, if◌then◌else◌}
use Rattle.std.specs.List.{list_any}
use Rattle.std.specs.Option.{option_map}
use Rattle.std.proofs.lemmas.Bool.Decides.{nat_tests}
use Rattle.channel_plan.specs.declared.plan.PlanRow.{PlanRow}
use Rattle.channel_view_model.specs.declared.view.View.{View}
use Rattle.channel_view_model.specs.declared.command.Command.{Command}
use Rattle.channel_view_model.specs.declared.command.Command.TheVariants as commands
use Rattle.channel_view_model.specs.declared.command.Change.{Change}
use Rattle.channel_view_model.specs.declared.command.Change.TheVariants.{Nothing, Vault as OnVault, Day as OnDay}
use Rattle.channel_view_model.specs.declared.command.Change.TheVariants.{Airing as OnAiring}
use Rattle.channel_view_model.specs.declared.command.VaultChange.{VaultChange}
use Rattle.channel_view_model.specs.declared.command.VaultChange.TheVariants.{Tape as TapeRow, Clip as ClipRow}
use Rattle.channel_view_model.specs.declared.command.VaultChange.TheVariants.{Offer as OfferRow}
use Rattle.channel_view_model.specs.Tables.{rows_of}
use Rattle.channel_view_model.specs.Seen.{seen_in, grants_to}
use Rattle.channel_view_model.specs.Decide.{decision, vault_decision}
use Rattle.channel_view_model.specs.Centre.{Centre, plan_of, seen_by, own_of, own_changed, changed, view_at, view_of}
use Rattle.channel_view_model.specs.Centre.{after_at, after}
use Rattle.channel_view_model.specs.Rules.{KeepsRules}
use Rattle.channel_view_model.specs.Solo.{Event, event_of_offer, view_after, solo_after, lent_after, heard, hears}
use Rattle.channel_view_model.specs.Solo.{own_part, change_of, changed_own, own_step, events_of_change, events_of}
use Rattle.vault_core.specs.declared.command.Put.{Put}
use Rattle.vault_core.specs.Own.{Own}
use Rattle.channel_view_model.proofs.OwnRuleLemmas.{ChangeMayBe, own_stays_so, decision_kept, decision_may_be, IsOfDay}
use Rattle.channel_view_model.proofs.OwnRuleLemmas.{day_change_asked, airing_change_asked}
use Rattle.channel_view_model.proofs.TableLemmas.{rows_of-replace_same, rows_of-replace_other}
use Rattle.channel_view_model.proofs.StepLemmas.{seen_is, plan_of-changed, own_of-changed_own, own_of-changed_other}
use Rattle.channel_view_model.proofs.LentLemmas.{grants_to-put_in, grants_to-put_out, grants_to-changed_own}
use Rattle.channel_view_model.proofs.RuleLemmas.{in_order, days_in_order, aired_in_order}

-- the plan row of c is c's
pub found_channel : (c : ℕ) (ps : List PlanRow) (p : PlanRow) → find (λ p. p.ch == c) ps ≡ Some p → p.ch ≡ c
found_channel c [] p e = cc
found_channel c (q ∷ ps) p e = grind (arith, nat_tests, e, found_channel c ps p)

-- a change of own rows leaves the days
days_of-changed_own : (c b : ℕ) (ch : VaultChange) (rows : Centre)
    → rows_of c (own_changed b ch rows).days ≡ rows_of c rows.days
days_of-changed_own c b (TapeRow t) rows = refl
days_of-changed_own c b (ClipRow k) rows = refl
days_of-changed_own c b (OfferRow o) rows = refl

-- and what was aired of them
aired_of-changed_own : (c b : ℕ) (ch : VaultChange) (rows : Centre)
    → rows_of c (own_changed b ch rows).aired ≡ rows_of c rows.aired
aired_of-changed_own c b (TapeRow t) rows = refl
aired_of-changed_own c b (ClipRow k) rows = refl
aired_of-changed_own c b (OfferRow o) rows = refl

-- a change of channel c is one of what it sees
view_at-changed_own : (c : ℕ) (p : PlanRow) (ch : Change) (rows : Centre) → KeepsRules rows → plan_of c rows ≡ Some p
    → own_stays_so ch (own_of c p rows) → view_at c (changed c ch rows) p ≡ view_after ch (view_at c rows p)
unfolding changed
view_at-changed_own c p Nothing rows rules known kept = refl
view_at-changed_own c p (OnVault put change) rows rules known kept =
    λ i. record {
      own = own_of-changed_own c p change rows (in_order rows rules) i;
      days = days_of-changed_own c c change rows i;
      aired = aired_of-changed_own c c change rows i;
      lent =
          grants_to-changed_own c p put change rows (found_channel c rows.channels p known) (in_order rows rules).2
          (rules.own c p known) kept.1 kept.0 i;
    }
view_at-changed_own c p (OnDay change) rows rules known kept =
    λ i. record {
      own = own_of c p rows;
      days =
          rows_of-replace_same (λ d. d.number) c change.day rows.days (days_in_order rows rules) i;
      aired =
          rows_of c rows.aired;
      lent = grants_to c rows.offers;
    }
view_at-changed_own c p (OnAiring airing) rows rules known kept =
    λ i. record {
      own = own_of c p rows;
      days = rows_of c rows.days;
      aired =
          rows_of-replace_same (λ a. a.day) c airing rows.aired (aired_in_order rows rules) i;
      lent =
          grants_to c rows.offers;
    }

-- where c has a plan row, and where it has none
view_some : (c : ℕ) (rows : Centre) (p : PlanRow) → plan_of c rows ≡ Some p → view_of c rows ≡ Some (view_at c rows p)
unfolding view_of
view_some c rows p e = ap (option_map (view_at c rows)) e

view_none : (c : ℕ) (rows : Centre) → plan_of c rows ≡ None → view_of c rows ≡ None
unfolding view_of
view_none c rows e = ap (option_map (view_at c rows)) e

-- a channel's request is a step of its machine
pub view_of-after_own : (c : ℕ) (q : Command) (rows : Centre) → KeepsRules rows
    → view_of c (after rows (c, q)) ≡ solo_after (view_of c rows) q
unfolding after solo_after
view_of-after_own c q rows rules = under (plan_of c rows) refl
  where
    under : (p : Option PlanRow) → plan_of c rows ≡ p
        → view_of c (after_at p rows (c, q)) ≡ solo_after (view_of c rows) q
    under None e = view_none c rows e ∙ sym (ap (λ v. solo_after v q) (view_none c rows e))
    under (Some p) e =
        let v : View = view_at c rows p in
        let ch : Change = (decision (seen_in v) q).1 in
        ap (λ s. view_of c (changed c (decision s q).1 rows)) (seen_is c p rows)
        ∙ view_some c (changed c ch rows) p (plan_of-changed c c ch rows ∙ e)
        ∙ ap Some (view_at-changed_own c p ch rows rules e (decision_kept v q (rules.own c p e)))
        ∙ sym (ap (λ w. solo_after w q) (view_some c rows p e))

-- what holds of what is seen under each plan row holds of what is seen
module _ (c : ℕ) (rows later : Centre) (plan : plan_of c later ≡ plan_of c rows) where
  lifted : (f : View → View) → ((p : PlanRow) → view_at c later p ≡ f (view_at c rows p))
      → view_of c later ≡ option_map f (view_of c rows)
  unfolding view_of
  lifted f each = ap (option_map (view_at c later)) plan ∙ under (plan_of c rows)
    where
      under : (p : Option PlanRow) → option_map (view_at c later) p ≡ option_map f (option_map (view_at c rows) p)
      under None = refl
      under (Some p) = ap Some (each p)

  lifted_same : ((p : PlanRow) → view_at c later p ≡ view_at c rows p) → view_of c later ≡ view_of c rows
  unfolding view_of
  lifted_same each = ap (option_map (view_at c later)) plan ∙ under (plan_of c rows)
    where
      under : (p : Option PlanRow) → option_map (view_at c later) p ≡ option_map (view_at c rows) p
      under None = refl
      under (Some p) = ap Some (each p)

-- another channel's change that leaves the lent clips leaves all
left : (c b : ℕ) (put : Put) (ch : VaultChange) (rows : Centre) → b ≢ c
    → grants_to c (own_changed b ch rows).offers ≡ grants_to c rows.offers
    → view_of c (changed b (OnVault put ch) rows) ≡ view_of c rows
unfolding changed
left c b put ch rows differ same =
    lifted_same c rows (own_changed b ch rows) (plan_of-changed c b (OnVault put ch) rows)
    (λ p i. record {
      own = own_of-changed_other c b p ch rows differ i;
      days = days_of-changed_own c b ch rows i;
      aired =
          aired_of-changed_own c b ch rows i;
      lent = same i;
    })

-- one that changes them changes them alone
reached : (c b : ℕ) (put : Put) (ch : VaultChange) (e : Event) (rows : Centre) → b ≢ c
    → grants_to c (own_changed b ch rows).offers ≡ lent_after e (grants_to c rows.offers)
    → view_of c (changed b (OnVault put ch) rows) ≡ hears (e ∷ []) (view_of c rows)
unfolding changed
reached c b put ch e rows differ same =
    lifted c rows (own_changed b ch rows) (plan_of-changed c b (OnVault put ch) rows) (heard e)
    (λ p i. record {
      own = own_of-changed_other c b p ch rows differ i;
      days = days_of-changed_own c b ch rows i;
      aired =
          aired_of-changed_own c b ch rows i;
      lent = same i;
    })

-- another channel's change comes to what c sees as the offer or the withdrawal that it is, or not at all
view_of-changed_other : (c b : ℕ) (p : PlanRow) (ch : Change) (rows : Centre) → KeepsRules rows
    → plan_of b rows ≡ Some p → ChangeMayBe ch (own_of b p rows) → b ≢ c
    → view_of c (changed b ch rows) ≡ hears (events_of_change c b ch) (view_of c rows)
unfolding changed lent_after
view_of-changed_other c b p Nothing rows rules known may differ = refl
view_of-changed_other c b p (OnDay change) rows rules known may differ =
    lifted_same c rows (changed b (OnDay change) rows) refl
    (λ p i. record {
      own = own_of c p rows;
      days = rows_of-replace_other (λ d. d.number) b c change.day rows.days differ i;
      aired =
          rows_of c rows.aired;
      lent = grants_to c rows.offers;
    })
view_of-changed_other c b p (OnAiring airing) rows rules known may differ =
    lifted_same c rows (changed b (OnAiring airing) rows) refl
    (λ p i. record {
      own = own_of c p rows;
      days = rows_of c rows.days;
      aired =
          rows_of-replace_other (λ a. a.day) b c airing rows.aired differ i;
      lent = grants_to c rows.offers;
    })
view_of-changed_other c b p (OnVault put (TapeRow t)) rows rules known may differ =
    left c b put (TapeRow t) rows differ refl
view_of-changed_other c b p (OnVault put (ClipRow k)) rows rules known may differ =
    left c b put (ClipRow k) rows differ refl
view_of-changed_other c b p (OnVault put (OfferRow o)) rows rules known may differ =
    elim (o.grantee == c)
    as (λ v. (o.grantee == c) ≡ v
    → view_of c (changed b (OnVault put (OfferRow o)) rows)
    ≡ hears (if v then event_of_offer b o ∷ [] else []) (view_of c rows)) [
      | true ↦ λ e. reached c b put (OfferRow o) (event_of_offer b o) rows differ
          (grants_to-put_in c b o (own_of b p rows) rows.offers (in_order rows rules).2 refl
          (rules.own b p known).offers.numbers put may e)
      | false ↦ λ e. left c b put (OfferRow o) rows differ
          (grants_to-put_out c b o (own_of b p rows) rows.offers (in_order rows rules).2 refl
          (rules.own b p known).offers.numbers put may e)
    ] refl

-- what the change of a command is to others can be computed from its channel's own rows alone
day_told : (c b : ℕ) (ch : Change) → IsOfDay ch → events_of_change c b ch ≡ []
day_told c b Nothing is = refl
day_told c b (OnVault put ch) is = absurd is
day_told c b (OnDay day) is = refl
day_told c b (OnAiring airing) is = refl

told_is : (c b : ℕ) (q : Command) (rows : Centre) (p : PlanRow)
    → events_of_change c b (decision (seen_by b p rows) q).1 ≡ events_of_change c b (change_of (own_of b p rows) q)
unfolding decision
told_is c b (commands.Vault q) rows p = ap (λ s. events_of_change c b (vault_decision s.own q).1) (seen_is b p rows)
told_is c b (commands.Day n q) rows p =
    day_told c b (decision (seen_by b p rows) (commands.Day n q)).1 (day_change_asked (seen_by b p rows) n q)
told_is c b (commands.Airing n q) rows p =
    day_told c b (decision (seen_by b p rows) (commands.Airing n q)).1 (airing_change_asked (seen_by b p rows) n q)
told_is c b commands.PlanRow rows p = refl
told_is c b (commands.Table table) rows p = refl

-- another channel's request comes to what c sees as the offer or the withdrawal that it is, or not at all
pub view_of-after_other : (c b : ℕ) (q : Command) (rows : Centre) → KeepsRules rows → b ≢ c
    → view_of c (after rows (b, q)) ≡ hears (events_of c b (own_part (view_of b rows)) q) (view_of c rows)
unfolding after events_of
view_of-after_other c b q rows rules differ = under (plan_of b rows) refl
  where
    may_be : (p : PlanRow) → ChangeMayBe (decision (seen_by b p rows) q).1 (own_of b p rows)
    may_be p =
        subst (λ s. ChangeMayBe (decision s q).1 (own_of b p rows)) (sym (seen_is b p rows))
        (decision_may_be (view_at b rows p) q)

    under : (p : Option PlanRow) → plan_of b rows ≡ p
        → view_of c (after_at p rows (b, q)) ≡ hears (events_of c b (own_part (view_of b rows)) q) (view_of c rows)
    under None e = ap (λ v. hears (events_of c b (own_part v) q) (view_of c rows)) (sym (view_none b rows e))
    under (Some p) e =
        view_of-changed_other c b p (decision (seen_by b p rows) q).1 rows rules e (may_be p) differ
        ∙ ap (λ es. hears es (view_of c rows)) (told_is c b q rows p)
        ∙ ap (λ v. hears (events_of c b (own_part v) q) (view_of c rows)) (sym (view_some b rows p e))

own_part-of_day : (v : View) (ch : Change) → IsOfDay ch → own_part (Some (view_after ch v)) ≡ Some v.own
own_part-of_day v Nothing is = refl
own_part-of_day v (OnVault put change) is = absurd is
own_part-of_day v (OnDay day) is = refl
own_part-of_day v (OnAiring airing) is = refl

-- own rows go by themselves
pub own_part-solo_after : (v : Option View) (q : Command) → own_part (solo_after v q) ≡ own_step (own_part v) q
unfolding solo_after decision
own_part-solo_after None q = refl
own_part-solo_after (Some v) (commands.Vault q) = by v (vault_decision _ q).1
  where
    by : (v : View) (ch : Change) → own_part (Some (view_after ch v)) ≡ Some (changed_own ch v.own)
    by v Nothing = refl
    by v (OnVault put change) = refl
    by v (OnDay day) = refl
    by v (OnAiring airing) = refl
own_part-solo_after (Some v) (commands.Day n q) =
    own_part-of_day v (decision (seen_in v) (commands.Day n q)).1 (day_change_asked (seen_in v) n q)
own_part-solo_after (Some v) (commands.Airing n q) =
    own_part-of_day v (decision (seen_in v) (commands.Airing n q)).1 (airing_change_asked (seen_in v) n q)
own_part-solo_after (Some v) commands.PlanRow = refl
own_part-solo_after (Some v) (commands.Table table) = refl

pub own_part-hears : (es : List Event) (v : Option View) → own_part (hears es v) ≡ own_part v
own_part-hears [] v = refl
own_part-hears (e ∷ es) None = own_part-hears es None
own_part-hears (e ∷ es) (Some v) = own_part-hears es (Some (heard e v))
