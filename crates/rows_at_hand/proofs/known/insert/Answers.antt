-- `insert`: knows this day from now on, as the latest.
use Rattle.std.proofs.Common.{inr, subst}
use Rattle.std.specs.Prelude.{is_ok}
use Rattle.rows_at_hand.specs.Known.{LeavesLatest}
use Rattle.rows_at_hand.proofs.LatestLemmas.{inserted_known, pushed_or_not}
use Rattle.rows_at_hand.proofs.known.insert.Goals as goal

pub returns-clause-known : goal.returns-clause-known
returns-clause-known c = λ rows all new.
    let days = c.args.days.now.items in
    let left = c.make_room.new.days.items in
    inserted_known rows c.args.known days c.push.new.self.items
    (inr (
      left,
      subst (λ n. LeavesLatest n days left) c.rows_in-rows.ensures c.make_room.ensures,
      pushed_or_not (is_ok c.push.result) left c.push.new.self.items c.args.known c.push.ensures.items,
    )) all new
