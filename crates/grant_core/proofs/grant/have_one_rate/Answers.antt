-- `have_one_rate`: whether no two grants of one owner have different rates: these are neighbours, as all are in order.
use Rattle.std.proofs.Common.{rules}
use Rattle.std.specs.Prelude.{not}
use Rattle.std.proofs.lemmas.List.Sorted.{answers_always}
use Rattle.grant_core.specs.Grant.{differ_in_rate}
use Rattle.grant_core.proofs.CopyLemmas.{rates_are}
use Rattle.grant_core.proofs.grant.have_one_rate.Goals as goal

pub returns : goal.returns
returns c =
    rates_are c.args.grants.now c.is_sorted_by.result c.requires
    (c.is_sorted_by.ensures.cases (λ g h. not (differ_in_rate g h)) (answers_always _ _ _ (λ f a r f' k. search rules)))
