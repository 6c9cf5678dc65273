-- The loops of `run_all` (runs these texts, one after another).
use Rattle.std.proofs.Common.{length}
use Rattle.station_tables_writing.proofs.creating.+run_all.Given as goal

abbrev pub decreases-run_all : goal.decreases-run_all
decreases-run_all g l = length l.texts.now
