-- `is_table_of`: whether rows lie channel after channel, each of a channel of the plan.
use Rattle.std.proofs.Common.{arith}
use Rattle.std.proofs.lemmas.Bool.Decides.{nat_tests}
use Rattle.std.proofs.lemmas.List.{at_drop_more, at_drop_all}
use Rattle.channel_view_model.proofs.DayWalkLemmas.{rising_from, rising_table}
use Rattle.channel_view_rules.proofs.day_rules.is_table_of.Goals as goal

pub returns-then-row-last : goal.returns-then-row-last
returns-then-row-last g c =
    let all = rising_table c.args.channels.now c.args.rows.now in
    let turn = at_drop_more (rising_from c.args.channels.now c.loop-row.last) c.args.rows.now c.loop-row.row-index in
    grind (arith, nat_tests, turn, all)

pub returns : goal.returns
returns g c =
    let all = rising_table c.args.channels.now c.args.rows.now in
    let end = at_drop_all (rising_from c.args.channels.now c.loop-row.last) c.args.rows.now c.loop-row.row-index in
    grind (arith, nat_tests, end, all)
