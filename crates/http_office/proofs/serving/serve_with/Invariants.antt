-- The loops of `serve_with` (answers message after message of a stream, with room for one read).
use Rattle.http_office.specs.Turn.{HasServed}
use Rattle.http_office.proofs.serving.serve_with.Given as goal

-- all pieces of what was read are answered
abbrev pub invariant-loop : goal.invariant-loop
invariant-loop g l =
    let store = g.S.RowStore in
    let contents = g.W.Write.contents in
    let remaining = g.R.Read.remaining in
    HasServed store.is_clean store.stands_for store.may_leave store.leaves_sets l.fn.store l.store
    (contents l.fn.output) (contents l.output) (remaining l.fn.input) (remaining l.input) l.pending.items l.seen
