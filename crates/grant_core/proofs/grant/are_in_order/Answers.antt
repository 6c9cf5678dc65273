-- `are_in_order`: whether grants are in the order of their owners and, of one owner, of their numbers.
use Rattle.std.proofs.Common.{◌≡◌, ◌∙◌, sym, rules}
use Rattle.std.proofs.lemmas.List.Sorted.{answers_always}
use Rattle.grant_core.specs.Grant.{is_before, are_in_order}
use Rattle.grant_core.proofs.OrderLemmas.{order_is}
use Rattle.grant_core.proofs.grant.are_in_order.Goals as goal

pub returns : goal.returns
returns c =
    let same : c.is_sorted_by.result ≡ are_in_order c.args.grants.now =
    order_is c.args.grants.now c.is_sorted_by.result
    (c.is_sorted_by.ensures.cases is_before (answers_always _ _ _ (λ f a r f' k. search rules))) in
    (λ is. sym same ∙ is, λ is. same ∙ is)
