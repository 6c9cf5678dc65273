-- `are_apart`: whether no two keys are equal.
use Rattle.std.proofs.Common.{rules}
use Rattle.std.specs.Ordering.{is_lt}
use Rattle.std.proofs.lemmas.List.Sorted.{answers_always}
use Rattle.vault_core.proofs.ApartLemmas.{apart_is}
use Rattle.vault_core.proofs.keys.are_apart.Goals as goal

pub returns : goal.returns
returns g c =
    apart_is g.met.K.Ord.total c.args.keys.now c.sort_unstable.new.self c.is_sorted_by.result
    c.sort_unstable.ensures.permutation c.sort_unstable.ensures.sorted
    (c.is_sorted_by.ensures.cases (λ x y. is_lt (g.K.Ord.cmp x y)) (answers_always _ _ _ (λ f a r f' k. search rules)))
