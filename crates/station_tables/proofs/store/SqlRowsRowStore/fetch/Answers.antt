-- `SqlRows::fetch`: a part of what a channel sees, by the plan that is kept.
use Rattle.station_tables.proofs.KeptLemmas.{kept_row}
use Rattle.station_tables.proofs.store.SqlRowsRowStore.fetch.Goals as goal

pub returns-clause-part : goal.returns-clause-part
returns-clause-part g c clean rows stands =
    c.fetch_part.ensures.part clean rows stands.0
    (kept_row c.args.channel rows _ c.deref.result.now c.plan_row-plan.result stands.1 c.deref.ensures.value
    c.plan_row-plan.ensures)

-- and keeps it
pub returns-clause-same : goal.returns-clause-same
returns-clause-same g c clean rows stands = (c.fetch_part.ensures.same clean rows stands.0, stands.1)
