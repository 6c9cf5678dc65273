-- `answer_front`: answers the piece at the front of the bytes, if a whole one is there.
use Rattle.std.proofs.Common.{◌∙◌, sym}
use Rattle.http_office.proofs.ServeLemmas.{on_done, turn_message, turn_last}
use Rattle.http_office.proofs.serving.answer_front.Goals as goal

pub returns-in-Message : goal.returns-in-Message
returns-in-Message g c =
    let store = g.S.RowStore in
    let acted = on_done c.act.result _ (sym c.is_err.ensures.value ∙ c.if-is_err.false) c.act.ensures.ok in
    turn_message store.is_clean store.stands_for store.may_leave store.leaves_sets _ _ _ _ c.args.bytes.now
    c.next_piece-next.result c.in-Message.m c.in-Message.is c.next_piece-next.ensures acted

pub returns-in-Last : goal.returns-in-Last
returns-in-Last g c =
    let store = g.S.RowStore in
    let acted = on_done c.act.result _ (sym c.is_err.ensures.value ∙ c.if-is_err.false) c.act.ensures.ok in
    turn_last store.is_clean store.stands_for store.may_leave store.leaves_sets _ _ _ _ c.args.bytes.now
    c.next_piece-next.result c.in-Last.field-0 c.in-Last.field-1 c.in-Last.is c.next_piece-next.ensures acted
