-- `a_stop_leaves_whole_messages`: what a stop may leave of a store that answered messages.
use Rattle.http_office.proofs.AloneLemmas.{remains_behind}
use Rattle.http_office.proofs.laws.a_stop_leaves_whole_messages.Goals as goal

pub returns : goal.returns
returns g c = λ asked answers did clean rows stands in_doubt before left may.
    remains_behind (g.S.RowStore.may_leave c.args._before.now) rows left asked answers in_doubt before
    (did.stop clean rows stands left may)
