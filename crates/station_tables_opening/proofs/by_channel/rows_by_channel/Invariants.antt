-- The loops of `rows_by_channel` (all rows of a table, by their keys, where each is of a channel of this plan).
use Rattle.std.proofs.Common.{Ok, drop}
use Rattle.sqlite.specs.State.{HasCleanDisk}
use Rattle.channel_plan.specs.declared.refusal.Code.{Code}
use Rattle.station_tables_statements.specs.Calls.{HasKnownSchema}
use Rattle.station_tables_records.specs.Inside.{inside, Reads}
use Rattle.station_tables_opening.specs.Parts.{HoldsPart}
use Rattle.station_tables_opening.proofs.by_channel.rows_by_channel.Given as goal

-- the rows of the channels so far were read
abbrev pub invariant-loop-plan : goal.invariant-loop-plan
invariant-loop-plan g l =
    let t = g.T.StoredRow.table in
    let trees = (inside g.S.Store l.fn.tx).now.trees in
    record {
      reads : Reads {X = Unit {0}} {E = Code} g.S.Store l.fn.tx l.tx (Ok tt);
      since : HasCleanDisk (inside g.S.Store l.tx) → HasCleanDisk (inside g.S.Store l.initial.tx);
      part : HasKnownSchema (inside g.S.Store l.fn.tx) → HasCleanDisk (inside g.S.Store l.tx)
          → HoldsPart t (trees t.base.tree) l.channels (drop l.plan-index l.channels) l.rows.items l.ids.items;
    }
