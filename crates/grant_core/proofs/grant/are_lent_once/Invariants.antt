-- The loops of `are_lent_once` (whether no two open grants, of clips below N, are of one clip of an owner).
use Rattle.std.proofs.Common.{◌≡◌, drop, replicate}
use Rattle.grant_core.proofs.LentLemmas.{passes}
use Rattle.grant_core.proofs.grant.are_lent_once.Given as goal

-- what is left decides
abbrev pub invariant-loop-grant : goal.invariant-loop-grant
invariant-loop-grant g l = passes l.owners (drop l.grant-index l.grants) ≡ passes (replicate g.row.N 0) l.grants
