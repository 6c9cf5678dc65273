-- `channel_rows`: the rows of one channel.
use Rattle.std.proofs.Common.{◌≤◌, drop, sym, ◌∙◌, ap, subst}
use Rattle.channel_view_rules.proofs.BisectLemmas.{found_between, not_past}
use Rattle.channel_view_rules.proofs.bisecting.channel_rows.Goals as goal

pub split_at-requires-2 : goal.split_at-requires-2
split_at-requires-2 g c =
    subst (λ n. c.channel_start.result ≤ n) (sym c.split_at.ensures.front_len)
    (not_past g.R.OfChannel.channel_of c.args.channel c.args.rows.now c.channel_start.result c.channel_end.result
    c.channel_start.ensures.within c.channel_start.ensures.place c.channel_end.ensures.place)

pub returns : goal.returns
returns g c =
    let key = g.R.OfChannel.channel_of in
    let before =
    not_past key c.args.channel c.args.rows.now c.channel_start.result c.channel_end.result
    c.channel_start.ensures.within c.channel_start.ensures.place c.channel_end.ensures.place in
    c.split_at-2.ensures.back ∙ ap (drop c.channel_start.result) c.split_at.ensures.front
    ∙ found_between key c.args.channel c.args.rows.now c.channel_start.result c.channel_end.result before
    c.channel_end.ensures.within c.channel_start.ensures.place c.channel_end.ensures.place
