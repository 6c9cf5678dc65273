-- `airing_in`: what was aired of a day of a planned channel.
use Rattle.std.proofs.Common.{◌≡◌, Some, refl, sym, ◌∙◌, subst, inl, inr}
use Rattle.std.specs.Prelude.{◌==◌, find}
use Rattle.channel_plan.specs.declared.plan.PlanRow.{PlanRow}
use Rattle.asrun_match.specs.Aired.{KeepsAiringRules}
use Rattle.station_tables_records.proofs.MadeLemmas.{planned_none, handed_on}
use Rattle.station_tables_records.specs.MadeAirings.{AiredSet}
use Rattle.station_tables_records.proofs.AiredMadeLemmas.{planned_airing}
use Rattle.station_tables_records.proofs.airings.airing_in.Goals as goal

pub returns-in_default-clause-fault : goal.returns-in_default-clause-fault
returns-in_default-clause-fault c =
    inr (
      refl,
      λ there kept. planned_none c.args.first.now.0 c.args.plan.now (sym c.in_default.is ∙ c.plan_row.ensures)
          there,
    )

pub returns-in_err-aired-clause-fault : goal.returns-in_err-aired-clause-fault
returns-in_err-aired-clause-fault c =
    let set : AiredSet = record { batches = c.args.batches.now; lines = c.args.lines.now } in
    let found : Some c.in-Some.planned ≡ find (λ (p : PlanRow). p.ch == c.args.first.now.0) c.args.plan.now =
    sym c.in-Some.is ∙ c.plan_row.ensures in
    handed_on _ c.in_err-aired.field-0.0 c.from_residual.result c.from_residual.ensures.1
    (elim c.in_err-aired.ensures.fault [
      | inl short ↦ inl short
      | inr bad ↦ inr (
        bad.0,
        λ there kept. bad.1
            (subst KeepsAiringRules
            (sym (planned_airing c.args.first.now.0 c.args.plan.now c.in-Some.planned found c.args.first.now.1.day set))
            kept),
      )
    ])

pub returns-clause-airing : goal.returns-clause-airing
returns-clause-airing c =
    let set : AiredSet = record { batches = c.args.batches.now; lines = c.args.lines.now } in
    let found : Some c.in-Some.planned ≡ find (λ (p : PlanRow). p.ch == c.args.first.now.0) c.args.plan.now =
    sym c.in-Some.is ∙ c.plan_row.ensures in
    let aired =
    c.in_ok-aired.ensures.airing
    ∙ planned_airing c.args.first.now.0 c.args.plan.now c.in-Some.planned found c.args.first.now.1.day set in
    λ i. (c.args.first.now.0, record { day = c.args.first.now.1.day; aired = aired i })
