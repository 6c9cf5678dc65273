-- `answer_whole`: answers each whole piece of what is pending, and takes them out.
use Rattle.std.proofs.Common.{arith}
use Rattle.std.proofs.lemmas.Result.{err_from_is_err_and}
use Rattle.http_office_requests.proofs.PieceLemmas.{nothing_seen}
use Rattle.http_office.proofs.ServeLemmas.{began, at_failed, at_ended, at_waits, at_went, turn_at}
use Rattle.http_office.proofs.serving.answer_whole.Goals as goal

pub loop-left-init : goal.loop-left-init
loop-left-init g c =
    let store = g.S.RowStore in
    record {
      within = omega arith;
      seen_is = c.requires;
      answered =
          began store.is_clean store.stands_for store.may_leave store.leaves_sets _ _ _;
    }

pub returns-in_err-left : goal.returns-in_err-left
returns-in_err-left g c =
    let store = g.S.RowStore in
    let h =
    turn_at store.is_clean store.stands_for store.may_leave store.leaves_sets _ _ _ _ _ _ c.loop-left.at
    c.in_err-left.field-0.0 c.deref.ensures.value c.in_err-left.ensures in
    let p = err_from_is_err_and c.from_residual.result c.from_residual.ensures.1 in
    rw (p.1, p.2)
    (at_failed store.is_clean store.stands_for store.may_leave store.leaves_sets _ _ _ _ _ _
    c.args.pending.now.items c.loop-left.at c.loop-left.invariant.answered c.args.pending.now.items
    c.in_err-left.field-0.0 h)

pub loop-left-preserved : goal.loop-left-preserved
loop-left-preserved g c =
    let store = g.S.RowStore in
    let h = rw (c.in-Answered.is, c.deref.ensures.value) at c.in_ok-left.ensures in
    let more =
    at_went store.is_clean store.stands_for store.may_leave store.leaves_sets _ _ _ _ _ _ c.args.pending.now.items
    c.loop-left.at c.loop-left.invariant.answered c.in-Answered.n c.loop-left.invariant.within h in
    record { within = more.0; seen_is = nothing_seen _; answered = more.1 }

pub returns-in-Ended : goal.returns-in-Ended
returns-in-Ended g c =
    let store = g.S.RowStore in
    let h = rw (c.in-Ended.is, c.deref.ensures.value) at c.in_ok-left.ensures in
    at_ended store.is_clean store.stands_for store.may_leave store.leaves_sets _ _ _ _ _ _ c.args.pending.now.items
    c.loop-left.at c.loop-left.invariant.answered c.args.pending.now.items h

pub returns : goal.returns
returns g c =
    let store = g.S.RowStore in
    let h = rw (c.in-Waits.is, c.deref.ensures.value) at c.in_ok-left.ensures in
    at_waits store.is_clean store.stands_for store.may_leave store.leaves_sets _ _ _ _ _ _ c.args.pending.now.items
    c.loop-left.at c.loop-left.invariant.answered _ _ c.remove_front.ensures h
