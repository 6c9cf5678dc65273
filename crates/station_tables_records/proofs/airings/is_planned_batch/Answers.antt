-- `is_planned_batch`: whether the batch's channel is planned.
use Rattle.std.proofs.Common.{sym, ap, ◌∙◌}
use Rattle.std.specs.Prelude.{◌==◌, is_some}
use Rattle.sqlite_keyed.proofs.SliceLemmas.{any_is_found}
use Rattle.channel_plan.specs.declared.plan.PlanRow.{PlanRow}
use Rattle.station_tables_records.proofs.airings.is_planned_batch.Goals as goal

pub returns : goal.returns
returns c =
    c.is_some.ensures ∙ ap is_some c.plan_row.ensures
    ∙ sym (any_is_found (λ (p : PlanRow). p.ch == c.args.batch.now.0) c.args.plan.now)
