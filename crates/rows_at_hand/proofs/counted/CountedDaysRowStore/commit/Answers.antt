-- `CountedDays::commit`: the store below makes the change, and what is told of days follows it.
use Rattle.std.proofs.Common.{subst, sym}
use Rattle.std.proofs.lemmas.List.Elements.{All-nil}
use Rattle.rows_at_hand.specs.Counted.{AreCounted, IsCounted}
use Rattle.rows_at_hand.proofs.counted.CountedDaysRowStore.commit.Goals as goal

pub returns-in-Ok-clause-ok : goal.returns-in-Ok-clause-ok
returns-in-Ok-clause-ok g c =
    λ clean rows stands is. (c.in-Ok.ensures.ok clean rows stands.0 is, c.follow.ensures.counted rows stands.1 is)

pub returns-in-Err-clause-err : goal.returns-in-Err-clause-err
returns-in-Err-clause-err g c = λ clean rows stands. (
  c.in-Err.ensures.err clean rows stands.0,
  subst (AreCounted rows) (sym c.let_go.ensures.none) (All-nil (IsCounted rows)),
)
