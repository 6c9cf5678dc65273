-- `plan_row`: the channel's row of the plan.
use Rattle.std.proofs.Common.{◌≡◌, true, false, sym, ap, ◌∙◌, rules}
use Rattle.std.specs.Prelude.{nat_lt, slice_get}
use Rattle.std.specs.List.Sorted.{IsPartitionPoint}
use Rattle.std.proofs.lemmas.List.Sorted.{IsPartitionPoint-from_clause}
use Rattle.channel_plan.specs.declared.plan.PlanRow.{PlanRow}
use Rattle.station_tables_records.specs.MadeDays.{row_of}
use Rattle.station_tables_records.proofs.BisectLemmas.{parted_plan, found_row}
use Rattle.station_tables_records.proofs.days.plan_row.Goals as goal

pub returns : goal.returns
returns c =
    let plan = c.args.plan.now in
    let ch = c.args.channel in
    let cut : IsPartitionPoint (λ (r : PlanRow). nat_lt r.ch ch ≡ true) (λ (r : PlanRow). nat_lt r.ch ch ≡ false) plan
    c.partition_point.result =
    IsPartitionPoint-from_clause (λ (r : PlanRow). nat_lt r.ch ch) plan c.partition_point.result
    c.partition_point.ensures.partitioned (parted_plan ch plan c.requires.rise) (λ a r q k. search rules) in
    c.if_of.ensures ∙ ap (row_of ch) (c.first.ensures.value ∙ ap (λ l. slice_get l 0) c.split_at.ensures.back)
    ∙ sym (found_row ch plan c.partition_point.result c.partition_point.ensures.bound cut c.requires.rise)
