-- The loops of `airings_alone` (what was aired by these rows, without their channels, copied).
use Rattle.std.proofs.Common.{◌≡◌, take}
use Rattle.channel_view_model.specs.Tables.{rows_alone}
use Rattle.channel_view_model.proofs.airings.airings_alone.Given as goal

abbrev pub invariant-loop-row : goal.invariant-loop-row
invariant-loop-row l = l.airings.items ≡ rows_alone (take l.row-index l.rows)
