-- What a change of one channel does to the rows of a part.
use Rattle.std.proofs.Common.{◌≡◌, ℕ, Bool, true, false, refl, sym, ◌∙◌, ap}
use Rattle.std.specs.Prelude.{◌==◌, Option, Some, None}
use Rattle.channel_plan.specs.declared.plan.PlanRow.{PlanRow}
use Rattle.vault_core.specs.declared.tape.Tape.{Tape}
use Rattle.vault_core.specs.declared.clip.Clip.{Clip}
use Rattle.vault_core.specs.declared.offer.Offer.{Offer}
use Rattle.playlist_core.specs.Day.{Day}
use Rattle.asrun_match.specs.declared.day.DayAsRun.{DayAsRun}
use Rattle.channel_view_model.specs.declared.command.Change.{Change}
use Rattle.channel_view_model.specs.declared.command.Change.TheVariants.{Nothing, Vault as OnVault, Day as OnDay}
use Rattle.channel_view_model.specs.declared.command.Change.TheVariants.{Airing as OnAiring}
use Rattle.channel_view_model.specs.declared.command.VaultChange.TheVariants.{Tape as TapeRow, Clip as ClipRow}
use Rattle.channel_view_model.specs.declared.command.VaultChange.TheVariants.{Offer as OfferRow}
use Rattle.channel_view_model.specs.Tables.{Table}
use Rattle.channel_view_model.specs.Decide.{decision}
use Rattle.channel_view_model.specs.Centre.{Centre, Request, plan_of, seen_by, changed, after_at, after}
use Rattle.channel_view_model.specs.Rules.{KeepsRules}
use Rattle.channel_view_model.proofs.RuleLemmas.{in_order, days_in_order, aired_in_order}
use Rattle.channel_view_laws.specs.Parts.{rows_part}
use Rattle.channel_view_laws.proofs.PartTableLemmas.{replace-out, replace-in}
use Rattle.channel_view_laws.proofs.PartViewLemmas.{OffersWithin, plan_of-part, seen_by-part}

module _ (mine : ℕ → Bool) (rows : Centre) where
  with_tapes : (s t : Table Tape) → s ≡ t
      → record (rows_part mine rows) { tapes = s } ≡ record (rows_part mine rows) { tapes = t }
  with_tapes s t e = λ i. record (rows_part mine rows) { tapes = e i }

  with_clips : (s t : Table Clip) → s ≡ t
      → record (rows_part mine rows) { clips = s } ≡ record (rows_part mine rows) { clips = t }
  with_clips s t e = λ i. record (rows_part mine rows) { clips = e i }

  with_offers : (s t : Table Offer) → s ≡ t
      → record (rows_part mine rows) { offers = s } ≡ record (rows_part mine rows) { offers = t }
  with_offers s t e = λ i. record (rows_part mine rows) { offers = e i }

  with_days : (s t : Table Day) → s ≡ t
      → record (rows_part mine rows) { days = s } ≡ record (rows_part mine rows) { days = t }
  with_days s t e = λ i. record (rows_part mine rows) { days = e i }

  with_aired : (s t : Table DayAsRun) → s ≡ t
      → record (rows_part mine rows) { aired = s } ≡ record (rows_part mine rows) { aired = t }
  with_aired s t e = λ i. record (rows_part mine rows) { aired = e i }

  -- one of a channel that isn't in the part leaves them
  changed-out : (c : ℕ) → mine c ≡ false → (ch : Change) → rows_part mine (changed c ch rows) ≡ rows_part mine rows
  unfolding changed
  changed-out c out Nothing = refl
  changed-out c out (OnVault put (TapeRow t)) = with_tapes _ _ (replace-out mine c (λ u. u.n) out t rows.tapes)
  changed-out c out (OnVault put (ClipRow k)) = with_clips _ _ (replace-out mine c (λ u. u.n) out k rows.clips)
  changed-out c out (OnVault put (OfferRow o)) = with_offers _ _ (replace-out mine c (λ u. u.n) out o rows.offers)
  changed-out c out (OnDay change) = with_days _ _ (replace-out mine c (λ d. d.number) out change.day rows.days)
  changed-out c out (OnAiring airing) = with_aired _ _ (replace-out mine c (λ a. a.day) out airing rows.aired)

  -- one of a channel of it is made in them
  changed-in : KeepsRules rows → (c : ℕ) → mine c ≡ true → (ch : Change)
      → rows_part mine (changed c ch rows) ≡ changed c ch (rows_part mine rows)
  unfolding changed
  changed-in rules c is Nothing = refl
  changed-in rules c is (OnVault put (TapeRow t)) =
      with_tapes _ _ (replace-in mine c (λ u. u.n) is t rows.tapes (in_order rows rules).0)
  changed-in rules c is (OnVault put (ClipRow k)) =
      with_clips _ _ (replace-in mine c (λ u. u.n) is k rows.clips (in_order rows rules).1)
  changed-in rules c is (OnVault put (OfferRow o)) =
      with_offers _ _ (replace-in mine c (λ u. u.n) is o rows.offers (in_order rows rules).2)
  changed-in rules c is (OnDay change) =
      with_days _ _ (replace-in mine c (λ d. d.number) is change.day rows.days (days_in_order rows rules))
  changed-in rules c is (OnAiring airing) =
      with_aired _ _ (replace-in mine c (λ a. a.day) is airing rows.aired (aired_in_order rows rules))

  -- so a request of another channel leaves them
  pub after-out : (r : Request) → mine r.0 ≡ false → rows_part mine (after rows r) ≡ rows_part mine rows
  unfolding after
  after-out r out = under (plan_of r.0 rows)
    where
      under : (o : Option PlanRow) → rows_part mine (after_at o rows r) ≡ rows_part mine rows
      under None = refl
      under (Some p) = changed-out r.0 out (decision (seen_by r.0 p rows) r.1).1

  -- and one of the part's, whose lenders are in it, is the same request of them
  pub after-in : KeepsRules rows → (r : Request) → mine r.0 ≡ true
      → ((p : PlanRow) → plan_of r.0 rows ≡ Some p → OffersWithin mine rows r.0)
      → rows_part mine (after rows r) ≡ after (rows_part mine rows) r
  unfolding after
  after-in rules r is within =
      under (plan_of r.0 rows) refl ∙ ap (λ o. after_at o (rows_part mine rows) r) (sym (plan_of-part mine rows r.0 is))
    where
      under : (o : Option PlanRow) → plan_of r.0 rows ≡ o
          → rows_part mine (after_at o rows r) ≡ after_at o (rows_part mine rows) r
      under None known = refl
      under (Some p) known =
          changed-in rules r.0 is (decision (seen_by r.0 p rows) r.1).1
          ∙ ap (λ s. changed r.0 (decision s r.1).1 (rows_part mine rows))
          (sym (seen_by-part mine rows r.0 is (within p known) p))
