-- `stores_go_alike`: two stores that are given the same messages give the same bytes, and hold the same rows.
use Rattle.std.proofs.Common.{subst, sym}
use Rattle.http_office.specs.Run.{rows_left_by}
use Rattle.http_office.proofs.AgainLemmas.{given_same, left_same}
use Rattle.http_office.proofs.laws.stores_go_alike.Goals as goal

pub returns-clause-bytes : goal.returns-clause-bytes
returns-clause-bytes g c = λ asked others xs ys did did_too same clean clean_too rows stands stands_too.
    given_same rows asked others xs ys same (did.answered clean rows stands)
    (did_too.answered clean_too rows stands_too)

pub returns-clause-rows : goal.returns-clause-rows
returns-clause-rows g c = λ asked others xs ys did did_too same clean clean_too rows stands stands_too. (
  rows_left_by rows asked xs,
  did.rows clean rows stands,
  subst (g.S2.RowStore.stands_for c.args._other_after.now) (sym (left_same rows asked others xs ys same))
      (did_too.rows clean_too rows stands_too),
)
