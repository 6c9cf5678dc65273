-- `place_of_day`: where the channel's row of this day stands, or belongs.
use Rattle.std.proofs.Common.{◌≤◌, ◌∙◌, ◌&&◌, ◌||◌, ap, sym, subst, length}
use Rattle.std.specs.Prelude.{◌==◌, nat_lt, nat_le, unwrap_or}
use Rattle.channel_view_rules.proofs.PlaceLemmas.{within, first_or_len}
use Rattle.channel_view.proofs.mem_days.place_of_day.Goals as goal

pub returns-clause-place : goal.returns-clause-place
returns-clause-place g c =
    let rows = c.args.table.now in
    c.unwrap_or.ensures ∙ ap (λ o. unwrap_or o (length rows)) c.first_from.ensures
    ∙ first_or_len
    (λ r. nat_lt c.args.channel r.0 || (r.0 == c.args.channel && nat_le c.args.day (g.D.OfDay.day_of r.1))) rows

pub returns-clause-within : goal.returns-clause-within
returns-clause-within g c =
    subst (λ n. n ≤ length c.args.table.now) (sym (returns-clause-place g c))
    (within (λ r. nat_lt c.args.channel r.0 || (r.0 == c.args.channel && nat_le c.args.day (g.D.OfDay.day_of r.1)))
    c.args.table.now)
