-- `forget`: all but the channel's day of this number.
use Rattle.std.proofs.Common.{◌≤◌, not, rules, subst, sym}
use Rattle.std.proofs.lemmas.Fn.{filter_same}
use Rattle.rows_at_hand.specs.Known.{is_day_of, rows_at_hand}
use Rattle.rows_at_hand.proofs.LatestLemmas.{filter_rows}
use Rattle.rows_at_hand.proofs.known.forget.Goals as goal

pub returns-clause-items : goal.returns-clause-items
returns-clause-items c = filter_same _ _ _ (λ x b f' k. search rules) _ _ c.retain.ensures.filtered

pub returns-clause-few_rows : goal.returns-clause-few_rows
returns-clause-few_rows c =
    let days = c.args.days.now.items in
    subst (λ ks. rows_at_hand ks ≤ rows_at_hand days) (sym (returns-clause-items c))
    (filter_rows (λ k. not (is_day_of c.args.channel c.args.number k)) days)
