-- `day_asked`: the day that is asked for, where it is known.
use Rattle.rows_at_hand.proofs.LatestLemmas.{asked_known}
use Rattle.rows_at_hand.proofs.recent.day_asked.Goals as goal

pub returns-clause-known : goal.returns-clause-known
returns-clause-known c = λ rows known.
    asked_known rows c.in-Some-place_of.place c.args.days.now.items c.ask_last.new.days.items c.ask_last.ensures known
