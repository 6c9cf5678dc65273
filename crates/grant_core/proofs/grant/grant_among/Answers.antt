-- `grant_among`: the lent clip of this owner and number, found by bisection, if it is among grants that `are_in_order`.
use Rattle.std.proofs.Common.{sym, ap, ◌∙◌}
use Rattle.std.specs.Prelude.{slice_get}
use Rattle.grant_core.specs.Grant.{if_grant}
use Rattle.grant_core.proofs.FindLemmas.{found_at}
use Rattle.grant_core.proofs.grant.grant_among.Goals as goal

pub returns : goal.returns
returns c =
    let owner = c.args.owner in
    let n = c.args.number in
    c.if_grant_of.ensures
    ∙ ap (if_grant owner n) (c.first.ensures.value ∙ ap (λ l. slice_get l 0) c.split_at.ensures.back)
    ∙ sym
    (found_at owner n c.args.grants.now c.place_of.result c.place_of.ensures.within c.place_of.ensures.place c.requires)
