-- `place_of`: where the day of this number stands, or belongs.
use Rattle.std.proofs.Common.{◌≤◌, ◌∙◌, ap, sym, subst, length}
use Rattle.std.specs.Prelude.{nat_le, unwrap_or}
use Rattle.channel_view_rules.proofs.PlaceLemmas.{within, first_or_len}
use Rattle.rows_at_hand.proofs.counts.place_of.Goals as goal

pub returns-clause-place : goal.returns-clause-place
returns-clause-place c =
    c.unwrap_or.ensures ∙ ap (λ o. unwrap_or o (length c.args.counts.now)) c.first_from.ensures
    ∙ first_or_len (λ k. nat_le c.args.number k.number) c.args.counts.now

pub returns-clause-within : goal.returns-clause-within
returns-clause-within c =
    subst (λ n. n ≤ length c.args.counts.now) (sym (returns-clause-place c))
    (within (λ k. nat_le c.args.number k.number) c.args.counts.now)
