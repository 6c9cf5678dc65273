-- `SqlRows::create`: makes the ten tables, the version and the channels of the plan, in one transaction.
use Rattle.std.proofs.Common.{rules}
use Rattle.station_tables_writing.proofs.StandLemmas.{leaves_alone}
use Rattle.station_tables_opening.proofs.OpenLemmas.{stands_alone}
use Rattle.station_tables.proofs.connected.SqlRows.create.Goals as goal

pub returns-in-Ok-create_centre-clause-made : goal.returns-in-Ok-create_centre-clause-made
returns-in-Ok-create_centre-clause-made g c = record {
  rows = λ bare clean. c.in-Ok-create_centre.ensures.ok bare clean;
  alone =
      λ bare clean left may. stands_alone _ _ (c.in-Ok-create_centre.ensures.ok bare clean)
      (c.in-Ok-create_centre.ensures.alone clean) left may;
  sets =
      λ bare clean. leaves_alone _ _ (c.in-Ok-create_centre.ensures.ok bare clean)
      (c.in-Ok-create_centre.ensures.alone clean) clean;
  settled = λ clean. c.in-Ok-create_centre.ensures.alone clean;
  taken = λ has clean. c.in-Ok-create_centre.ensures.taken has clean;
  only_a_plan = search (rules);
}
