-- `fill`: makes the tables of a new centre, and fills them.
use Rattle.std.proofs.Common.{rules}
use Rattle.station_tables_records.specs.Inside.{inside}
use Rattle.station_tables_statements.proofs.LookLemmas.{weaker}
use Rattle.station_tables_writing.specs.Tables.{IsNewCentre}
use Rattle.station_tables_writing.proofs.PlanLemmas.{holds_plan}
use Rattle.station_tables_writing.proofs.founding.fill.Goals as goal

pub returns-clause-makes : goal.returns-clause-makes
returns-clause-makes g c planned bare clean =
    let new : IsNewCentre (inside g.S.Store c.insert_office.new.tx) = search (rules, bare, clean) in
    weaker c.insert_plan.result (λ made. (made.0.shown.is_open, holds_plan c.args.plan.now planned _ _ new.sound made))
    (c.insert_plan.ensures.makes new planned clean)
