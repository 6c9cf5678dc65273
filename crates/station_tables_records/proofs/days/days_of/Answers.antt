-- `days_of`: the days, each with its channel, that the rows of the plan, of days and of items make.
use Rattle.std.proofs.Common.{inl, inr, arith}
use Rattle.station_tables_records.specs.MadeDays.{DaySet}
use Rattle.station_tables_records.proofs.MadeLemmas.{refused_at, handed_on}
use Rattle.station_tables_records.proofs.days.days_of.Goals as goal

pub returns-in_err-day-clause-fault : goal.returns-in_err-day-clause-fault
returns-in_err-day-clause-fault c =
    let rows : DaySet = record { days = c.args.days.now; items = c.args.items.now } in
    handed_on _ c.in_err-day.field-0.0 c.from_residual.result c.from_residual.ensures.1
    (elim c.in_err-day.ensures.fault [
      | inl short ↦ inl short
      | inr bad ↦ inr (bad.0, refused_at c.args.plan.now rows c.loop-channel.channel-index _ (omega arith) bad.1)
    ])
