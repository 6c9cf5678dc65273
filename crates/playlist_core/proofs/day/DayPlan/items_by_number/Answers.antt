-- `DayPlan::items_by_number`: its items again, in the order of their numbers.
use Rattle.std.proofs.Common.{rules}
use Rattle.std.proofs.lemmas.List.Sorted.{IsNonDecreasingBy-from_sort_by_key}
use Rattle.playlist_core.specs.declared.item.Item.{Item}
use Rattle.playlist_core.proofs.day.DayPlan.items_by_number.Goals as goal

pub returns-clause-order : goal.returns-clause-order
returns-clause-order c =
    IsNonDecreasingBy-from_sort_by_key (λ (i : Item). i.n) c.sort_unstable_by_key.new.self.items
    c.sort_unstable_by_key.ensures.sorted (λ a r after called. search rules)
