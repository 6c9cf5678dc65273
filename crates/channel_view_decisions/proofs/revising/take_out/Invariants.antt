-- The loops of `take_out` (takes out the items of these numbers, up to the first that is refused).
use Rattle.std.proofs.Common.{◌≡◌, ◌+◌, drop}
use Rattle.channel_view_model.specs.Revising.{day_without, in_turn}
use Rattle.channel_view_decisions.proofs.revising.take_out.Given as goal

-- what is left decides
abbrev pub invariant-loop-place : goal.invariant-loop-place
invariant-loop-place l =
    in_turn day_without (l.place + 1) (drop l.place l.numbers) l.day ≡ in_turn day_without 1 l.numbers l.initial.day
