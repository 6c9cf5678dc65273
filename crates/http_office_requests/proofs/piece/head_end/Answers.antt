-- `head_end`: how long the head is, if it ends.
use Rattle.std.proofs.Common.{◌≡◌, ℕ, ◌+◌, drop, arith, sym, subst, ◌∙◌}
use Rattle.std.specs.Prelude.{option_map}
use Rattle.http_office_requests.specs.Piece.{head_len}
use Rattle.http_office_requests.proofs.HeadLemmas.{found_at, not_at, nowhere, skipped}
use Rattle.http_office_requests.proofs.piece.head_end.Goals as goal

pub returns-then-is_empty_line_at : goal.returns-then-is_empty_line_at
returns-then-is_empty_line_at c =
    found_at c.args.bytes.now c.loop-at.at (omega arith) c.loop-at.invariant.before
    (sym c.is_empty_line_at.ensures ∙ c.if-is_empty_line_at.true)

pub loop-at-init : goal.loop-at-init
loop-at-init c =
    let bytes = c.args.bytes.now in
    record {
      within = omega arith;
      before =
          subst (λ (m : ℕ). head_len bytes ≡ option_map (λ n. m + n) (head_len (drop m bytes)))
          (sym c.saturating_sub-at.ensures) (skipped bytes c.args.searched c.requires.within c.requires.searched);
    }

pub loop-at-preserved : goal.loop-at-preserved
loop-at-preserved c = record {
  within = omega arith;
  before =
      not_at c.args.bytes.now c.loop-at.at (omega arith) c.loop-at.invariant.before
      (sym c.is_empty_line_at.ensures ∙ c.if-is_empty_line_at.false);
}

pub returns : goal.returns
returns c = nowhere c.args.bytes.now c.loop-at.at (omega arith) c.loop-at.invariant.before
