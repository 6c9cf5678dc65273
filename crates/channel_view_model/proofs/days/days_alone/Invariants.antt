-- The loops of `days_alone` (the days of these rows, without their channels, copied).
use Rattle.std.proofs.Common.{◌≡◌, take}
use Rattle.channel_view_model.specs.Tables.{rows_alone}
use Rattle.channel_view_model.proofs.days.days_alone.Given as goal

abbrev pub invariant-loop-row : goal.invariant-loop-row
invariant-loop-row l = l.days.items ≡ rows_alone (take l.row-index l.rows)
