-- `merged`: the rows of two lists, each one behind the other, in the order of their positions.
use Rattle.std.proofs.Common.{◌≡◌, ◌∙◌, ◌+◌, [], ◌∷◌, ◌++◌, List, drop, sym, ap, subst, arith}
use Rattle.std.specs.Prelude.{IsPermutation}
use Rattle.std.proofs.lemmas.List.{drop_all, drop_more}
use Rattle.playlist_core.specs.Order.{AreApart}
use Rattle.asrun_match.specs.declared.aired.AiredRow.{AiredRow}
use Rattle.asrun_match.specs.Aired.{aired}
use Rattle.asrun_match.proofs.WeaveLemmas.{weave, weave_none, weave_turn, weave_moved, woven_apart, apart_drop}
use Rattle.asrun_match.proofs.sorted.merged.Goals as goal

pub loop-other-preserved : goal.loop-other-preserved
loop-other-preserved c =
    let done = c.loop-other.merged.items in
    let left = c.loop-other.left.now in
    let others = c.args.others.now in
    let i = c.loop-other.other-index in
    let r = c.other-item.result in
    let k = c.place_for.result in
    let rest = drop (i + 1) others in
    record {
      woven =
          ap (λ m. m ++ weave c.split_at.result.1.now rest)
          (c.in_ok-push.ensures.items ∙ ap (λ m. m ++ r ∷ []) c.in_ok-extend_from_slice.ensures.items)
          ∙ weave_turn done left c.split_at.result.0.now c.split_at.result.1.now rest r k c.place_for.ensures.value
          c.split_at.ensures.front c.split_at.ensures.back
          ∙ sym
          (ap (λ zs. done ++ weave left zs)
          (drop_more others i r c.loop-other-test.true ∙ ap (λ (x : AiredRow). x ∷ rest) (sym c.other-item.is)))
          ∙ c.loop-other.invariant.woven;
      apart = (
        c.loop-other.invariant.apart.0,
        subst (AreApart aired 0 c.loop-other.invariant.apart.0)
            (sym c.split_at.ensures.back)
            (apart_drop 0 c.loop-other.invariant.apart.0 k left c.loop-other.invariant.apart.1),
      );
    }

-- what is there in the end
woven : (done left rows others new : List AiredRow) (rest : List AiredRow) → rest ≡ []
    → done ++ weave left rest ≡ weave rows others → new ≡ done ++ left → weave rows others ≡ new
woven done left rows others new rest ended is made =
    sym is ∙ ap (λ zs. done ++ weave left zs) ended ∙ ap (λ zs. done ++ zs) (weave_none left) ∙ sym made

pub returns-clause-rows : goal.returns-clause-rows
returns-clause-rows c =
    let rows = c.args.rows.now in
    let others = c.args.others.now in
    subst (IsPermutation (rows ++ others))
    (woven c.loop-other.merged.items c.loop-other.left.now rows others c.extend_from_slice-2.new.self.items
    (drop c.loop-other.other-index others) (drop_all c.loop-other.other-index others (omega arith))
    c.loop-other.invariant.woven c.in_ok-extend_from_slice-2.ensures.items)
    (weave_moved rows others)

pub returns-clause-apart : goal.returns-clause-apart
returns-clause-apart c =
    λ day apart apart_others none.
    let rows = c.args.rows.now in
    let others = c.args.others.now in
    subst (AreApart aired 0 day)
    (woven c.loop-other.merged.items c.loop-other.left.now rows others c.extend_from_slice-2.new.self.items
    (drop c.loop-other.other-index others) (drop_all c.loop-other.other-index others (omega arith))
    c.loop-other.invariant.woven c.in_ok-extend_from_slice-2.ensures.items)
    (woven_apart day rows others apart apart_others none)
