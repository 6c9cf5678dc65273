-- The loops of `insert_plan` (adds these channels to tables without a row but that of `office`, whose plan is tested).
use Rattle.std.proofs.Common.{length}
use Rattle.station_tables_writing.proofs.founding.+insert_plan.Given as goal

abbrev pub decreases-insert_plan : goal.decreases-insert_plan
decreases-insert_plan g l = length l.plan.now
