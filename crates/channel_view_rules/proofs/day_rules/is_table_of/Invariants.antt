-- The loops of `is_table_of` (whether rows lie channel after channel, each of a channel of the plan).
use Rattle.std.proofs.Common.{◌≡◌, drop}
use Rattle.channel_view_model.proofs.DayWalkLemmas.{rising_from}
use Rattle.channel_view_rules.proofs.day_rules.is_table_of.Given as goal

-- what is left decides
abbrev pub invariant-loop-row : goal.invariant-loop-row
invariant-loop-row g l = rising_from l.channels l.last (drop l.row-index l.rows) ≡ rising_from l.channels 0 l.rows
