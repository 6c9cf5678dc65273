-- `place_for`: where an item that begins at a position belongs: in front of the first that ends behind it.
use Rattle.std.proofs.Common.{◌≡◌, ◌+◌, Bool, true, false, get_or, rules, arith}
use Rattle.std.specs.Prelude.{nat_lt, nat_le}
use Rattle.std.specs.List.Sorted.{IsPartitionPoint}
use Rattle.std.proofs.lemmas.Bool.Decides.{nat_tests}
use Rattle.std.proofs.lemmas.List.Sorted.{IsPartitionPoint-from_clause, IsPartitionedBy-leb}
use Rattle.playlist_core.specs.declared.item.Item.{Item}
use Rattle.playlist_core.specs.Item.{planned}
use Rattle.playlist_core.proofs.PlaceLemmas.{cut_is, ends_rise}
use Rattle.playlist_core.proofs.places.place_for.Goals as goal

pub returns-clause-value : goal.returns-clause-value
returns-clause-value c =
    let items = c.args.items.now in
    let position = c.args.position in
    let ended : Item → Bool = λ i. nat_le (i.pos + i.frames) position in
    let cut : IsPartitionPoint (λ i. ended i ≡ true) (λ i. ended i ≡ false) items c.partition_point.result =
    IsPartitionPoint-from_clause ended items c.partition_point.result c.partition_point.ensures.partitioned
    (IsPartitionedBy-leb (λ i. i.pos + i.frames) items position (ends_rise planned 0 c.requires.0 items c.requires.1))
    (λ a r f' k. search rules) in
    cut_is (λ i. nat_lt position (i.pos + i.frames)) items c.partition_point.result c.partition_point.ensures.bound
    (λ j d lt. let here : ended (get_or items j d) ≡ true = cut.0 j d (omega arith) lt in
    grind (arith, nat_tests, here))
    (λ j d from lt. let here : ended (get_or items j d) ≡ false = cut.1 j d from lt in grind (arith, nat_tests, here))
