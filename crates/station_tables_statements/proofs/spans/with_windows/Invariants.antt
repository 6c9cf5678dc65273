-- The loops of `with_windows` (these offers, each with its channel, with their windows).
use Rattle.std.proofs.Common.{◌≡◌, map, take, Ok}
use Rattle.station_tables_records.specs.Inside.{inside, Looks}
use Rattle.station_tables_records.specs.TablePairs.{offer_rows_in}
use Rattle.station_tables_records.specs.MadeOffers.{offer_made}
use Rattle.station_tables_statements.specs.Calls.{WhileCleanCentre}
use Rattle.station_tables_statements.proofs.spans.with_windows.Given as goal

-- the windows of those in front were read
abbrev pub invariant-loop-row : goal.invariant-loop-row
invariant-loop-row g l = record {
  looks : Looks {X = Unit {0}} {E = Unit {0}} g.S.Store l.initial.tx l.tx (Ok tt);
  made : WhileCleanCentre g.S.Store l.initial.tx l.tx
      (l.made.items
      ≡ map (offer_made (offer_rows_in (inside g.S.Store l.initial.tx).now.trees).spans) (take l.row-index l.offers));
}
