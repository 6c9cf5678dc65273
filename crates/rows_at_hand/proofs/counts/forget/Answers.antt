-- `forget`: all but this channel.
use Rattle.std.proofs.Common.{◌≤◌, not, rules, subst, sym}
use Rattle.std.proofs.lemmas.Fn.{filter_same}
use Rattle.rows_at_hand.specs.Counted.{days_counted, is_channel}
use Rattle.rows_at_hand.proofs.CountedLemmas.{filter_few}
use Rattle.rows_at_hand.proofs.counts.forget.Goals as goal

pub returns-clause-items : goal.returns-clause-items
returns-clause-items c = filter_same _ _ _ (λ x b f' k. search rules) _ _ c.retain.ensures.filtered

pub returns-clause-few : goal.returns-clause-few
returns-clause-few c =
    let channels = c.args.channels.now.items in
    subst (λ ks. days_counted ks ≤ days_counted channels) (sym (returns-clause-items c))
    (filter_few (λ k. not (is_channel c.args.channel k)) channels)
