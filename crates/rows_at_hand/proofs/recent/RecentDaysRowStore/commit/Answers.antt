-- `RecentDays::commit`: the store below makes the change, and the days at hand follow it.
use Rattle.std.proofs.Common.{subst, sym}
use Rattle.rows_at_hand.specs.Known.{AreKnown}
use Rattle.rows_at_hand.proofs.KnownLemmas.{known_beside}
use Rattle.rows_at_hand.proofs.recent.RecentDaysRowStore.commit.Goals as goal

pub returns-in-Ok-clause-ok : goal.returns-in-Ok-clause-ok
returns-in-Ok-clause-ok g c =
    λ clean rows stands is. (c.in-Ok.ensures.ok clean rows stands.0 is, c.apply.ensures.known rows stands.1 is)

pub returns-in-Err-clause-err : goal.returns-in-Err-clause-err
returns-in-Err-clause-err g c = λ clean rows stands. (
  c.in-Err.ensures.err clean rows stands.0,
  subst (AreKnown rows) (sym c.forget_changed.ensures.left)
      (known_beside rows c.args.channel c.args.change.now c.args.self.now.days.items stands.1),
)
