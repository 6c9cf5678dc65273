-- `day_of`: the day of a row, of a channel whose plan row this is, with these items in any order.
use Rattle.std.proofs.Common.{sym, ◌∙◌, refl, subst}
use Rattle.timecode.specs.Counting.{day_length}
use Rattle.playlist_core.specs.Day.{KeepsDayRules}
use Rattle.station_tables_records.proofs.MadeLemmas.{made_is, none_made}
use Rattle.station_tables_records.proofs.days.day_of.Goals as goal

pub returns-in_default-clause-ours : goal.returns-in_default-clause-ours
returns-in_default-clause-ours c = (
  refl,
  none_made (day_length c.args.plan.now.rate) c.args.items.items c.args.row
      (λ order same kept. c.in_default.ensures.refusal.1 order same
      (subst
      (λ state. KeepsDayRules
      (record
      { number = c.args.row.number; frames = day_length c.args.plan.now.rate; state = state; items = order }))
      (sym c.state_of.ensures) kept)),
)

pub returns-clause-day : goal.returns-clause-day
returns-clause-day c =
    let told = c.in-Ok.ensures.day in
    made_is c.in-Ok.day (day_length c.args.plan.now.rate) c.args.items.items c.args.row
    (told.0, told.1, told.2 ∙ c.state_of.ensures, told.3) c.keep_the_rules.ensures
