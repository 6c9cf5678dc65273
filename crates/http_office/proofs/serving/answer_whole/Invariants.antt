-- The loops of `answer_whole` (answers each whole piece of what is pending, and takes them out).
use Rattle.std.proofs.Common.{◌≤◌, ◌-◌, length, drop}
use Rattle.http_office_requests.specs.FoundPiece.{IsFramingProgress}
use Rattle.http_office.specs.Turn.{SoFar}
use Rattle.http_office.proofs.serving.answer_whole.Given as goal

abbrev pub invariant-loop-left : goal.invariant-loop-left
invariant-loop-left g l =
    let store = g.S.RowStore in
    let contents = g.W.Write.contents in
    record {
      within : l.at ≤ length l.pending.items;
      seen_is : IsFramingProgress (drop l.at l.pending.items) l.seen;
      answered : SoFar store.is_clean store.stands_for store.may_leave store.leaves_sets l.fn.store l.store
          (contents l.fn.output) (contents l.output) l.pending.items (drop l.at l.pending.items);
    }

abbrev pub decreases-loop-left : goal.decreases-loop-left
decreases-loop-left g l = length l.pending.items - l.at
