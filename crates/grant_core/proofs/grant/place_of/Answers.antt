-- `place_of`: where the grant of this owner and number stands, or would.
use Rattle.std.proofs.Common.{rules}
use Rattle.std.proofs.lemmas.List.Sorted.{IsPartitionPoint-from_clause}
use Rattle.grant_core.specs.Grant.{is_below}
use Rattle.grant_core.proofs.FindLemmas.{parted}
use Rattle.grant_core.proofs.grant.place_of.Goals as goal

pub returns-clause-place : goal.returns-clause-place
returns-clause-place c =
    IsPartitionPoint-from_clause (is_below c.args.owner c.args.number) c.args.grants.now c.partition_point.result
    c.partition_point.ensures.partitioned
    (parted c.args.owner c.args.number c.args.grants.now c.requires) (λ a r q k. search rules)
