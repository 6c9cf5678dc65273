-- `SqlRows::write_table`: a table of the channel, by the plan that is kept.
use Rattle.station_tables.proofs.KeptLemmas.{kept_row}
use Rattle.station_tables_writing.proofs.StandLemmas.{leaves_kept}
use Rattle.station_tables.proofs.store.SqlRowsRowStore.write_table.Goals as goal

pub returns-clause-there : goal.returns-clause-there
returns-clause-there g c clean rows stands =
    c.write_table.ensures.there clean rows stands.0
    (kept_row c.args.channel rows _ c.deref.result.now c.plan_row-plan.result stands.1 c.deref.ensures.value
    c.plan_row-plan.ensures)

pub returns-clause-ok : goal.returns-clause-ok
returns-clause-ok g c clean rows stands =
    c.write_table.ensures.ok clean rows stands.0
    (kept_row c.args.channel rows _ c.deref.result.now c.plan_row-plan.result stands.1 c.deref.ensures.value
    c.plan_row-plan.ensures)

pub returns-clause-err : goal.returns-clause-err
returns-clause-err g c clean rows stands =
    c.write_table.ensures.err clean rows stands.0
    (kept_row c.args.channel rows _ c.deref.result.now c.plan_row-plan.result stands.1 c.deref.ensures.value
    c.plan_row-plan.ensures)

-- and keeps it
pub returns-clause-same : goal.returns-clause-same
returns-clause-same g c clean rows stands = (c.write_table.ensures.same clean rows stands.0, stands.1)

-- what a stop leaves is what it left before
pub returns-clause-sets : goal.returns-clause-sets
returns-clause-sets g c sets = leaves_kept _ _ c.write_table.ensures.survives sets
