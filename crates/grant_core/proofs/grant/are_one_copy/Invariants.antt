-- The loops of `are_one_copy` (whether no two grants of one clip differ in what a copy has).
use Rattle.std.proofs.Common.{◌≡◌, length}
use Rattle.grant_core.proofs.CopyLemmas.{Noted}
use Rattle.grant_core.proofs.grant.are_one_copy.Given as goal

abbrev pub invariant-loop-at : goal.invariant-loop-at
invariant-loop-at g l = record {
  long : length l.places ≡ g.row.N;
  noted : Noted l.grants l.places l.at;
}
