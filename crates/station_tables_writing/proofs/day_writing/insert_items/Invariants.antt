-- The loops of `insert_items` (adds items of a day, whose numbers are new in it).
use Rattle.std.proofs.Common.{take}
use Rattle.station_tables_records.specs.Inside.{inside}
use Rattle.station_tables_records.specs.TablePairs.{on_items}
use Rattle.station_tables_records.proofs.Turns.{with_items}
use Rattle.station_tables_statements.specs.DayCalls.{AreNewNow, has_some}
use Rattle.station_tables_writing.proofs.ItemLemmas.{HasDone}
use Rattle.station_tables_writing.proofs.day_writing.insert_items.Given as goal

abbrev pub invariant-loop-item : goal.invariant-loop-item
invariant-loop-item g l =
    HasDone g.S.Store (AreNewNow l.fn.channel l.fn.day l.fn.items (inside g.S.Store l.fn.tx))
    (has_some (take l.item-index l.fn.items))
    (on_items (with_items l.fn.channel l.fn.day (take l.item-index l.fn.items))) l.fn.tx l.tx
