-- `stores_answer_alike`: two stores that a channel sees alike give it the same bytes.
use Rattle.http_office.proofs.AloneLemmas.{bytes_alike, sets_alike, answered_so}
use Rattle.http_office.proofs.laws.stores_answer_alike.Goals as goal

pub returns-clause-rows : goal.returns-clause-rows
returns-clause-rows g c = λ a is. (
  (λ clean rows stands.
      (answered_so (g.S1.RowStore.stands_for c.answer.new.store) c.args.message.now rows c.answer.result a is
      (c.answer.ensures.answer clean rows stands)).1),
  (λ clean rows stands.
      (answered_so (g.S2.RowStore.stands_for c.answer-2.new.store) c.args.message.now rows c.answer-2.result a is
      (c.answer-2.ensures.answer clean rows stands)).1),
)

pub returns-clause-answers : goal.returns-clause-answers
returns-clause-answers g c = λ clean clean_too rows others stands stands_too a is alike.
    bytes_alike rows others a c.answer.result c.answer-2.result alike
    (answered_so (g.S1.RowStore.stands_for c.answer.new.store) c.args.message.now rows c.answer.result a is
    (c.answer.ensures.answer clean rows stands)).0
    (answered_so (g.S2.RowStore.stands_for c.answer-2.new.store) c.args.message.now others c.answer-2.result a is
    (c.answer-2.ensures.answer clean_too others stands_too)).0

pub returns-clause-views : goal.returns-clause-views
returns-clause-views g c = λ clean clean_too rows others stands stands_too a is alike.
    sets_alike rows others a c.answer.result c.answer-2.result (c.answer.ensures.rules clean rows stands a is)
    (c.answer-2.ensures.rules clean_too others stands_too a is) alike
