-- `SqlRows::day_counts`: what is told of a channel's days, by the plan that is kept.
use Rattle.station_tables.proofs.KeptLemmas.{kept_row}
use Rattle.station_tables.proofs.store.SqlRowsCountsDays.day_counts.Goals as goal

pub returns-clause-counts : goal.returns-clause-counts
returns-clause-counts g c clean rows stands =
    c.load_day_counts.ensures.counts clean rows stands.0
    (kept_row c.args.channel rows _ c.deref.result.now c.plan_row-plan.result stands.1 c.deref.ensures.value
    c.plan_row-plan.ensures)

-- and keeps it
pub returns-clause-same : goal.returns-clause-same
returns-clause-same g c clean rows stands = (c.load_day_counts.ensures.same clean rows stands.0, stands.1)
