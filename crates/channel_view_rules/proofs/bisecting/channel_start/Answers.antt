-- `channel_start`: where the rows of this channel begin.
use Rattle.std.proofs.Common.{nat_lt, rules}
use Rattle.std.proofs.lemmas.List.Sorted.{IsPartitionPoint-from_clause}
use Rattle.channel_view_rules.proofs.BisectLemmas.{parted_below}
use Rattle.channel_view_rules.proofs.bisecting.channel_start.Goals as goal

pub returns-clause-place : goal.returns-clause-place
returns-clause-place g c =
    let key = g.R.OfChannel.channel_of in
    IsPartitionPoint-from_clause (λ r. nat_lt (key r) c.args.channel) c.args.rows.now c.partition_point.result
    c.partition_point.ensures.partitioned (parted_below key c.args.channel c.args.rows.now c.requires)
    (λ a r q k. search rules)
