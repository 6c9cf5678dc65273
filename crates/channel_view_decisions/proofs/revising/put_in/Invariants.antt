-- The loops of `put_in` (puts in these items, up to the first that is refused, or for which memory is wanted).
use Rattle.std.proofs.Common.{◌≡◌, ◌+◌, drop}
use Rattle.channel_view_model.specs.Revising.{day_with, in_turn}
use Rattle.channel_view_decisions.proofs.revising.put_in.Given as goal

-- what is left decides
abbrev pub invariant-loop-place : goal.invariant-loop-place
invariant-loop-place g l =
    in_turn (day_with l.plan (g.S.Sources.seen l.sources)) (l.place + 1) (drop l.place l.items) l.day
    ≡ in_turn (day_with l.plan (g.S.Sources.seen l.sources)) 1 l.items l.initial.day
