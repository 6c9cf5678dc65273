-- The loops of `delete_items` (takes items of a day out).
use Rattle.std.proofs.Common.{take}
use Rattle.station_tables_records.specs.TablePairs.{on_items}
use Rattle.station_tables_records.proofs.Turns.{without_items}
use Rattle.station_tables_statements.specs.DayCalls.{has_some}
use Rattle.station_tables_writing.proofs.ItemLemmas.{HasDone}
use Rattle.station_tables_writing.proofs.day_writing.delete_items.Given as goal

abbrev pub invariant-loop-item : goal.invariant-loop-item
invariant-loop-item g l =
    HasDone g.S.Store (Unit {0}) (has_some (take l.item-index l.fn.items))
    (on_items (without_items l.fn.channel l.fn.day (take l.item-index l.fn.items))) l.fn.tx l.tx
