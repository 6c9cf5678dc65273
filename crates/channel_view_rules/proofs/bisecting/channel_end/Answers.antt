-- `channel_end`: where those of the channels behind it begin.
use Rattle.std.proofs.Common.{nat_le, rules}
use Rattle.std.proofs.lemmas.List.Sorted.{IsPartitionPoint-from_clause, IsPartitionedBy-leb}
use Rattle.channel_view_rules.proofs.bisecting.channel_end.Goals as goal

pub returns-clause-place : goal.returns-clause-place
returns-clause-place g c =
    let key = g.R.OfChannel.channel_of in
    IsPartitionPoint-from_clause (λ r. nat_le (key r) c.args.channel) c.args.rows.now c.partition_point.result
    c.partition_point.ensures.partitioned (IsPartitionedBy-leb key c.args.rows.now c.args.channel c.requires)
    (λ a r q k. search rules)
