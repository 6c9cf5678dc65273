-- `lay_over`: pieces laid over others.
use Rattle.std.proofs.Common.{ℕ, max, [], ◌∷◌, ◌++◌, length, sym, ap, ◌∙◌, arith}
use Rattle.std.specs.Prelude.{Option}
use Rattle.edl_diff.specs.declared.layers.Piece.{Piece}
use Rattle.edl_diff.proofs.LayerLemmas.{laid_first, laid_next, laid_all, next_fewer}
use Rattle.edl_diff.proofs.layers.lay_over.Goals as goal

abbrev piece : ℕ → Option ℕ → Piece
piece end event = record { end = end; event = event }

pub loop-stretch-init : goal.loop-stretch-init
loop-stretch-init c =
    (0, laid_first c.args.above.now c.args.under.now c.new-pieces.result.items c.new-pieces.ensures.items)

pub loop-stretch-preserved : goal.loop-stretch-preserved
loop-stretch-preserved c =
    let laid = c.loop-stretch.invariant in (
      max laid.0 c.in-Some.stretch.end,
      laid_next c.args.above.now c.args.under.now c.loop-stretch.ones.now c.loop-stretch.others.now
          c.loop-stretch.pieces.items c.push.new.self.items laid.0 c.in-Some.stretch laid.1
          (sym c.in-Some.ensures)
          (c.in_ok-push.ensures.items
          ∙ ap (λ (o : Option ℕ). c.loop-stretch.pieces.items ++ (piece c.in-Some.stretch.end o ∷ [])) c.or.ensures)
          c.behind-ones.result.now c.behind-others.result.now c.behind-ones.ensures c.behind-others.ensures,
    )

pub loop-stretch-smaller : goal.loop-stretch-smaller
loop-stretch-smaller c =
    let fewer =
    next_fewer c.loop-stretch.ones.now c.loop-stretch.others.now c.in-Some.stretch (sym c.in-Some.ensures) in
    let one = ap length c.behind-ones.ensures in
    let other = ap length c.behind-others.ensures in
    omega (arith, fewer, one, other)

pub returns : goal.returns
returns c =
    let laid = c.loop-stretch.invariant in
    laid_all c.args.above.now c.args.under.now c.loop-stretch.ones.now c.loop-stretch.others.now
    c.loop-stretch.pieces.items laid.0 laid.1 (sym c.in_default.ensures)
