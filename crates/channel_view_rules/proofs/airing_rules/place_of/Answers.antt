-- `place_of`: where the days with this number and those behind it begin.
use Rattle.std.proofs.Common.{nat_lt, rules}
use Rattle.std.proofs.lemmas.List.Sorted.{IsPartitionPoint-from_clause}
use Rattle.channel_view_rules.proofs.BisectLemmas.{parted_below}
use Rattle.channel_view_rules.proofs.AiringWalkLemmas.{numbers_sorted}
use Rattle.channel_view_rules.proofs.airing_rules.place_of.Goals as goal

pub returns-clause-place : goal.returns-clause-place
returns-clause-place g c =
    let day = g.D.OfDay.day_of in
    let days = c.args.days.now in
    IsPartitionPoint-from_clause (λ r. nat_lt (day r).number c.args.number) days c.partition_point.result
    c.partition_point.ensures.partitioned
    (parted_below (λ r. (day r).number) c.args.number days (numbers_sorted day 0 days c.requires))
    (λ a r q k. search rules)
