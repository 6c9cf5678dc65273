-- `lent_by_channel`: what is lent to each channel, channel after channel.
use Rattle.std.proofs.Common.{◌≡◌, rules}
use Rattle.std.proofs.lemmas.Fn.{always_returns_same}
use Rattle.std.proofs.lemmas.List.Sorted.{IsNonDecreasingBy-from_sort_by_key, length_permutation}
use Rattle.channel_view_rules.proofs.LentLemmas.{grantee_of, lends_as}
use Rattle.channel_view_rules.proofs.day_rules.lent_by_channel.Goals as goal

pub returns-clause-order : goal.returns-clause-order
returns-clause-order c =
    IsNonDecreasingBy-from_sort_by_key grantee_of c.sort_by_key.new.self.items c.in_ok-sort_by_key.ensures.sorted
    (λ a r after called. search rules)

pub returns-clause-lent : goal.returns-clause-lent
returns-clause-lent c =
    lends_as c.args.offers.now c.in_ok-lent.lent.items c.in_ok-lent.ensures c.sort_by_key.new.self.items
    (length_permutation _ _ c.sort_by_key.ensures.permutation)
    (c.sort_by_key.ensures.stable grantee_of
    (always_returns_same _ (λ a r. r ≡ grantee_of a.0.now) _ (λ a r after called. search rules)))
