-- `end_of_channel`: how many rows at the front are of this channel.
use Rattle.std.proofs.Common.{◌≤◌, ◌∙◌, ap, sym, subst, length}
use Rattle.std.specs.Prelude.{◌==◌, not, unwrap_or}
use Rattle.channel_view_rules.proofs.PlaceLemmas.{within, first_or_len}
use Rattle.channel_view_rules.proofs.rules.end_of_channel.Goals as goal

pub returns-clause-value : goal.returns-clause-value
returns-clause-value g c =
    let rows = c.args.rows.now in
    c.unwrap_or.ensures ∙ ap (λ o. unwrap_or o (length rows)) c.first_of_another.ensures
    ∙ first_or_len (λ r. not (r.0 == c.args.channel)) rows

pub returns-clause-within : goal.returns-clause-within
returns-clause-within g c =
    subst (λ n. n ≤ length c.args.rows.now) (sym (returns-clause-value g c))
    (within (λ r. not (r.0 == c.args.channel)) c.args.rows.now)
