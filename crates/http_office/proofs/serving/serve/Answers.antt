-- `serve`: answers message after message of a stream, each whole one before the next read.
use Rattle.http_office.proofs.ServeLemmas.{unread}
use Rattle.http_office.proofs.serving.serve.Goals as goal

pub returns-in_default : goal.returns-in_default
returns-in_default g c =
    let store = g.S.RowStore in
    unread store.is_clean store.stands_for store.may_leave store.leaves_sets _ _ _

pub returns-in_default-vec : goal.returns-in_default-vec
returns-in_default-vec g c =
    let store = g.S.RowStore in
    unread store.is_clean store.stands_for store.may_leave store.leaves_sets _ _ _
