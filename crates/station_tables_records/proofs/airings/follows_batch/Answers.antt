-- `follows_batch`: whether the batch has number 1, or the one before it is there.
use Rattle.station_tables_records.proofs.AiredMadeLemmas.{batch_zero}
use Rattle.station_tables_records.proofs.airings.follows_batch.Goals as goal

pub returns-in-0 : goal.returns-in-0
returns-in-0 c = batch_zero c.args.batches.now c.args.batch.now c.in-0.is
