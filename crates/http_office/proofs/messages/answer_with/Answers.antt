-- `answer_with`: answers bytes that are to be one message.
use Rattle.http_office_requests.specs.Request.{refused}
use Rattle.http_office.proofs.RunLemmas.{refused_did}
use Rattle.http_office.proofs.messages.answer_with.Goals as goal

pub returns-in-None : goal.returns-in-None
returns-in-None g c =
    let store = g.S.RowStore in (
      refused 400,
      c.in-None.ensures.none,
      refused_did store.is_clean store.stands_for store.may_leave store.leaves_sets
          c.args.store.now 400 c.refuse.result c.refuse.ensures,
    )
