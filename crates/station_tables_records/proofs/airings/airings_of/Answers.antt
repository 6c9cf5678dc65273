-- `airings_of`: what was aired of each day that has a batch, with the day's channel, by the rows of the plan.
use Rattle.std.proofs.Common.{inl, inr, arith}
use Rattle.std.proofs.lemmas.Bool.Decides.{nat_tests}
use Rattle.station_tables_records.specs.MadeAirings.{AiredSet}
use Rattle.station_tables_records.proofs.MadeLemmas.{handed_on}
use Rattle.station_tables_records.proofs.AiredMadeLemmas.{refused_at}
use Rattle.station_tables_records.proofs.airings.airings_of.Goals as goal

pub returns-in_err-airing_in-clause-fault : goal.returns-in_err-airing_in-clause-fault
returns-in_err-airing_in-clause-fault c =
    let set : AiredSet = record { batches = c.args.batches.now; lines = c.args.lines.now } in
    let first = c.if-batch-eq1.true in
    handed_on _ c.in_err-airing_in.field-0.0 c.from_residual.result c.from_residual.ensures.1
    (elim c.in_err-airing_in.ensures.fault [
      | inl short ↦ inl short
      | inr bad ↦ inr (
        bad.0,
        refused_at c.args.plan.now set c.loop-batch.batch-index _ (omega arith) (grind (arith, nat_tests, first))
            bad.1,
      )
    ])
