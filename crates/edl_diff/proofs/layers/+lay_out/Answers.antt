-- `lay_out`: the day, with the number of the event that is on top at each frame.
use Rattle.std.proofs.Common.{◌≡◌, ◌<◌, ◌/◌, ◌∙◌, List, length, ap, sym, arith}
use Rattle.std.specs.Prelude.{Some, None}
use Rattle.std.proofs.lemmas.Bool.Decides.{nat_tests}
use Rattle.std.proofs.lemmas.Result.{IfOk-weaker}
use Rattle.edl_diff.specs.declared.layers.Piece.{Piece}
use Rattle.edl_diff.specs.Layers.{IsPlaced, piece_at, top_from}
use Rattle.edl_diff.proofs.LayoutLemmas.{all_back, all_front, holds_at, laid_both, no_top, one_event}
use Rattle.edl_diff.proofs.layers.+lay_out.Goals as goal

pub returns-then-is_empty : goal.returns-then-is_empty
returns-then-is_empty t c =
    let none : length c.args.events.now ≡ 0 = grind (arith, nat_tests, c.is_empty.ensures, c.if-is_empty.true) in
    IfOk-weaker c.lay_nothing.result _ _
    (λ pieces laid f lt. laid f lt
    ∙ ap (λ o. Some o) (sym (no_top c.args.day c.args.track c.args.number c.args.events.now f none)))
    c.lay_nothing.ensures

pub lay_event-requires-clause-placed : goal.lay_event-requires-clause-placed
lay_event-requires-clause-placed t c =
    holds_at (IsPlaced c.args.day) c.args.events.now 0 c.index-events-0.result c.requires.placed (omega arith)
    c.index-events-0.is

pub lay_out-requires : goal.lay_out-requires
lay_out-requires t c =
    let some : 0 < length c.args.events.now = grind (arith, nat_tests, c.is_empty.ensures, c.if-is_empty.false) in
    let one = c.if-events-eq1.false in
    let front = c.split_at.ensures.front_len in
    let few = c.requires.few in (
      omega (arith, c.decreases, front, some),
      (
        c.requires.day,
        (
          omega (arith, few, front),
          all_front (IsPlaced c.args.day) c.args.events.now c.split_at.result.0.now
              (length c.args.events.now / 2) c.split_at.ensures.front c.requires.placed,
        ),
      ),
    )

pub lay_out-requires-2 : goal.lay_out-requires-2
lay_out-requires-2 t c =
    let some : 0 < length c.args.events.now = grind (arith, nat_tests, c.is_empty.ensures, c.if-is_empty.false) in
    let one = c.if-events-eq1.false in
    let front = c.split_at.ensures.front_len in
    let back = c.split_at.ensures.back_len in
    let few = c.requires.few in (
      omega (arith, c.decreases, back, some),
      (
        c.requires.day,
        (
          omega (arith, few, front, back),
          all_back (IsPlaced c.args.day) c.args.events.now c.split_at.result.1.now
              (length c.args.events.now / 2) c.split_at.ensures.back c.requires.placed,
        ),
      ),
    )

pub returns : goal.returns
returns t c =
    IfOk-weaker c.lay_over.result _ _ (λ pieces laid.
    laid_both c.args.day c.args.track c.args.number c.args.events.now c.split_at.result.0.now c.split_at.result.1.now
    (length c.args.events.now / 2) c.deref.result.now c.deref-2.result.now pieces.items
    c.split_at.ensures.front c.split_at.ensures.back
    (λ f lt. ap (λ (ps : List Piece). piece_at ps f) c.deref-2.ensures.value ∙ c.in_ok-under.ensures f lt)
    (λ f lt. ap (λ (ps : List Piece). piece_at ps f) c.deref.ensures.value ∙ c.in_ok-above.ensures f lt)
    laid) c.lay_over.ensures
