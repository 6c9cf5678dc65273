-- `serve_with`: answers message after message of a stream, with room for one read.
use Rattle.std.proofs.Common.{List, ℕ, sym, subst, ◌∙◌}
use Rattle.std.proofs.lemmas.Result.{err_from_is_err_and}
use Rattle.http_office_requests.specs.Piece.{IsPartial}
use Rattle.http_office_requests.specs.FoundPiece.{IsFramingProgress}
use Rattle.http_office_requests.proofs.PieceLemmas.{seen_more}
use Rattle.http_office.proofs.ServeLemmas.{opened, comes_short, goes_round, refuses, breaks, read_breaks}
use Rattle.http_office.proofs.serving.serve_with.Goals as goal

pub loop-init : goal.loop-init
loop-init g c =
    let store = g.S.RowStore in
    rw c.new-pending.ensures.items (opened store.is_clean store.stands_for store.may_leave store.leaves_sets _ _ _)

pub returns-in_err-read_more : goal.returns-in_err-read_more
returns-in_err-read_more g c =
    let store = g.S.RowStore in
    let p = err_from_is_err_and c.from_residual.result c.from_residual.ensures.1 in
    rw (p.1, p.2)
    (read_breaks store.is_clean store.stands_for store.may_leave store.leaves_sets _ _ _ _ _ _ _ _ _
    c.loop.invariant _ c.in_err-read_more.field-0.0 c.in_err-read_more.ensures)

pub is_plainly_partial-requires : goal.is_plainly_partial-requires
is_plainly_partial-requires g c =
    let read = rw c.in-More.is at c.in_ok-read_more.ensures in
    subst (λ (l : List ℕ). IsFramingProgress l c.loop.seen) (sym (c.deref.ensures.value ∙ read.2))
    (seen_more c.loop.pending.items read.0 c.loop.seen c.loop.invariant.seen_is)

pub loop-preserved-then-is_plainly_partial : goal.loop-preserved-then-is_plainly_partial
loop-preserved-then-is_plainly_partial g c =
    let store = g.S.RowStore in
    let read = rw c.in-More.is at c.in_ok-read_more.ensures in
    rw read.2
    (comes_short store.is_clean store.stands_for store.may_leave store.leaves_sets _ _ _ _ _ _ _ _ _
    c.loop.invariant read.0 read.1
    (subst IsPartial (c.deref.ensures.value ∙ read.2) (c.is_plainly_partial.ensures c.if-is_plainly_partial.true)))

pub answer_whole-requires : goal.answer_whole-requires
answer_whole-requires g c =
    let read = rw c.in-More.is at c.in_ok-read_more.ensures in
    rw read.2 (seen_more c.loop.pending.items read.0 c.loop.seen c.loop.invariant.seen_is)

pub returns-in_err-left : goal.returns-in_err-left
returns-in_err-left g c =
    let store = g.S.RowStore in
    let read = rw c.in-More.is at c.in_ok-read_more.ensures in
    let turns = rw read.2 at c.in_err-left.ensures in
    let p = err_from_is_err_and c.from_residual-in_err-left.result c.from_residual-in_err-left.ensures.1 in
    rw (p.1, p.2)
    (breaks store.is_clean store.stands_for store.may_leave store.leaves_sets _ _ _ _ _ _ _ _ _ c.loop.invariant
    read.0 read.1 _ _ _ c.in_err-left.field-0.0 turns)

pub returns-in-None : goal.returns-in-None
returns-in-None g c =
    let store = g.S.RowStore in
    let read = rw c.in-More.is at c.in_ok-read_more.ensures in
    let turns = rw (read.2, c.in-None.is) at c.in_ok-left.ensures in
    refuses store.is_clean store.stands_for store.may_leave store.leaves_sets _ _ _ _ _ _ _ _ _ c.loop.invariant read.0
    read.1 _ _ _ turns

pub loop-preserved : goal.loop-preserved
loop-preserved g c =
    let store = g.S.RowStore in
    let read = rw c.in-More.is at c.in_ok-read_more.ensures in
    let turns = rw (read.2, c.in-Some.is) at c.in_ok-left.ensures in
    goes_round store.is_clean store.stands_for store.may_leave store.leaves_sets _ _ _ _ _ _ _ _ _ c.loop.invariant
    read.0 read.1 _ _ _ c.in-Some.left turns
