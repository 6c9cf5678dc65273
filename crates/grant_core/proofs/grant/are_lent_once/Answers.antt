-- `are_lent_once`: whether no two open grants, of clips below N, are of one clip of an owner.
use Rattle.std.proofs.Common.{◌∙◌, sym, ap, arith}
use Rattle.std.proofs.lemmas.List.{drop_all}
use Rattle.grant_core.proofs.LentLemmas.{passes, passes_from_none, pass_stops}
use Rattle.grant_core.proofs.grant.are_lent_once.Goals as goal

pub returns-then-is_noted : goal.returns-then-is_noted
returns-then-is_noted g c =
    sym (pass_stops c.args.grants.now c.loop-grant.grant-index _ c.grant-item.result c.loop-grant.owners
    c.loop-grant-test.true c.grant-item.is (sym c.is_noted.ensures ∙ c.if-is_noted.true))
    ∙ c.loop-grant.invariant
    ∙ passes_from_none g.row.N c.args.grants.now c.requires.owners c.requires.clips c.requires.order

pub returns : goal.returns
returns g c =
    sym (ap (passes c.loop-grant.owners) (drop_all c.loop-grant.grant-index c.args.grants.now (omega arith)))
    ∙ c.loop-grant.invariant
    ∙ passes_from_none g.row.N c.args.grants.now c.requires.owners c.requires.clips c.requires.order
