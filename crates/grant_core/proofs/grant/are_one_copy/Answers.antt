-- `are_one_copy`: whether no two grants, of clips below N, are of one clip of an owner and differ in what a copy has.
use Rattle.std.proofs.Common.{◌≡◌, ◌<◌, ℕ, length, get_or, sym, ◌∙◌, ap, arith}
use Rattle.std.proofs.lemmas.List.{get_or_default, length-set}
use Rattle.grant_core.specs.declared.grant.Grant.{Grant}
use Rattle.grant_core.specs.Grant.{differ_as_copies}
use Rattle.grant_core.proofs.LentLemmas.{clip_below, length_nobody}
use Rattle.grant_core.proofs.CopyLemmas.{none_apart, nothing_noted, noted_on, copy_clashes}
use Rattle.grant_core.proofs.grant.are_one_copy.Goals as goal

pub loop-at-init : goal.loop-at-init
loop-at-init g c = record { long = length_nobody g.row.N; noted = nothing_noted c.args.grants.now g.row.N }

pub returns-then-differ_as_copies : goal.returns-then-differ_as_copies
returns-then-differ_as_copies g c =
    let gs = c.args.grants.now in
    let x : Grant = c.index-grants-at.result in
    let at : ℕ = get_or c.loop-at.places x.offer.clip 0 in
    let lt : at < length gs = omega (arith, c.loop-at.invariant.noted.low x.offer.clip, c.loop-at-test.true) in
    let there : c.index-grants-last.result ≡ get_or gs at x =
    c.index-grants-last.is ∙ get_or_default gs at c.index-grants-last.result x lt in
    sym (copy_clashes gs c.loop-at.places c.loop-at.at x x c.loop-at-test.true c.index-grants-at.is
    c.loop-at.invariant.noted
    (ap (λ (h : Grant). differ_as_copies h x) (sym there) ∙ sym c.differ_as_copies.ensures
    ∙ c.if-differ_as_copies.true))

pub loop-at-preserved : goal.loop-at-preserved
loop-at-preserved g c =
    let gs = c.args.grants.now in
    let x : Grant = c.index-grants-at.result in
    let at : ℕ = get_or c.loop-at.places x.offer.clip 0 in
    let lt : at < length gs = omega (arith, c.loop-at.invariant.noted.low x.offer.clip, c.loop-at-test.true) in
    let there : c.index-grants-last.result ≡ get_or gs at x =
    c.index-grants-last.is ∙ get_or_default gs at c.index-grants-last.result x lt in
    let clip : x.offer.clip < g.row.N =
    clip_below g.row.N gs c.loop-at.at x x c.requires.clips c.loop-at-test.true c.index-grants-at.is in
    record {
      long = length-set c.loop-at.places x.offer.clip c.loop-at.at ∙ c.loop-at.invariant.long;
      noted =
          noted_on gs c.loop-at.places c.loop-at.at x x c.requires.order c.loop-at-test.true c.index-grants-at.is
          (omega (arith, clip, c.loop-at.invariant.long)) c.loop-at.invariant.noted
          (ap (λ (h : Grant). differ_as_copies h x) (sym there) ∙ sym c.differ_as_copies.ensures
          ∙ c.if-differ_as_copies.false);
    }

pub returns : goal.returns
returns g c = sym (none_apart c.args.grants.now c.loop-at.places c.loop-at.at (omega arith) c.loop-at.invariant.noted)
