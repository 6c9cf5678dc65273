-- `CountedDays::load`: as the store below, and where that fails nothing is at hand any more.
use Rattle.std.proofs.Common.{subst, sym}
use Rattle.std.proofs.lemmas.List.Elements.{All-nil}
use Rattle.rows_at_hand.specs.Counted.{AreCounted, IsCounted}
use Rattle.rows_at_hand.proofs.counted.CountedDaysRowStore.load.Goals as goal

pub returns-in-Err-clause-same : goal.returns-in-Err-clause-same
returns-in-Err-clause-same g c = λ clean rows stands. (
  c.in-Err.ensures.same clean rows stands.0,
  subst (AreCounted rows) (sym c.let_go.ensures.none) (All-nil (IsCounted rows)),
)
