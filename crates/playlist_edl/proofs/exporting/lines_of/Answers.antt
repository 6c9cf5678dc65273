-- `lines_of`: the lines of a day's items, in the order of their positions.
use Rattle.std.proofs.Common.{◌+◌, sym, subst, ap, ◌∙◌}
use Rattle.std.specs.Prelude.{map, IfSome}
use Rattle.std.specs.Option.{option_map, option_to_list}
use Rattle.timecode.specs.Counting.{day_length}
use Rattle.playlist_edl.specs.Exporting.{CanBeListed, item_line, outgoing_of, line_shown}
use Rattle.playlist_edl.proofs.ExportLemmas.{before_has, outgoing_before, lines_step}
use Rattle.playlist_edl.proofs.exporting.lines_of.Goals as goal

pub outgoing_line-requires : goal.outgoing_line-requires
outgoing_line-requires g c =
    let listed = CanBeListed c.args.plan.now (g.S.Sources.seen c.args.sources.now) in
    subst (λ o. IfSome o listed) (sym c.item_before-before.ensures)
    (before_has listed c.args.items.now c.loop-k.k c.requires.listed)

pub loop-k-preserved : goal.loop-k-preserved
loop-k-preserved g c =
    let plan = c.args.plan.now in
    let seen = g.S.Sources.seen c.args.sources.now in
    lines_step plan seen c.args.items.now c.loop-k.k c.index-items-k.result (map line_shown c.loop-k.lines.items)
    (map line_shown c.push_lines.new.lines.items)
    (option_map line_shown c.in_ok-outgoing.outgoing) (line_shown c.in_ok-line.line) c.loop-k-test.true
    (c.in_ok-line.ensures ∙ ap (item_line plan seen (c.loop-k.k + 1)) c.index-items-k.is)
    (c.in_ok-outgoing.ensures
    ∙ ap (outgoing_of plan seen (option_to_list c.item_before-before.result) (c.loop-k.k + 1)) c.index-items-k.is
    ∙ outgoing_before plan seen (day_length plan.rate) c.args.items.now c.loop-k.k _ c.item_before-before.result
    c.requires.apart c.loop-k-test.true c.item_before-before.ensures)
    c.in_ok-push_lines.ensures
    ∙ c.loop-k.invariant
