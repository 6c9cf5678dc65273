-- `list_text`: the text of a day's list.
use Rattle.std.proofs.Common.{◌≡◌, ◌+◌, ◌≤◌, length, ◌∙◌, ap, sym, subst, arith}
use Rattle.std.specs.Prelude.{All, map}
use Rattle.timecode.specs.Counting.{day_length}
use Rattle.edl.specs.Limits.{highest_event_number}
use Rattle.edl.specs.WrittenShown.{outs_of}
use Rattle.playlist_core.specs.Limits.{most_items}
use Rattle.playlist_core.specs.Item.{planned}
use Rattle.playlist_core.specs.Order.{AreApart}
use Rattle.playlist_edl.specs.Exporting.{line_shown, lines_from}
use Rattle.playlist_edl.proofs.ExportLemmas.{IsWritable, all_writable, lines_writable, day_shorter}
use Rattle.playlist_core.proofs.FewLemmas.{items_few}
use Rattle.playlist_edl.proofs.exporting.list_text.Goals as goal

pub lines_of-requires-clause-few : goal.lines_of-requires-clause-few
lines_of-requires-clause-few g c =
    subst (λ items. length items ≤ most_items) (sym c.items.ensures)
    (items_few c.args.day.now.items c.keep_the_rules.ensures.numbered)

pub lines_of-requires-clause-apart : goal.lines_of-requires-clause-apart
lines_of-requires-clause-apart g c =
    subst (λ items. AreApart planned 0 (day_length c.args.plan.now.rate) items) (sym c.items.ensures)
    (subst (λ frames. AreApart planned 0 frames c.args.day.now.items) c.requires.own c.keep_the_rules.ensures.apart)

pub write_to_string-requires : goal.write_to_string-requires
write_to_string-requires g c =
    let plan = c.args.plan.now in
    let seen = g.S.Sources.seen c.args.sources.now in
    let items = c.args.day.now.items in
    let most : length items ≤ most_items = items_few items c.keep_the_rules.ensures.numbered in
    let few : 1 + length items ≤ highest_event_number + 1 = omega (arith, most) in
    let fits : All (IsWritable plan.rate) (lines_from plan seen items 1 items) =
    lines_writable plan seen items items 1 few c.requires.listed c.requires.listed
    (day_shorter c.args.day.now (day_length plan.rate) c.keep_the_rules.ensures c.requires.own c.requires.shorter)
    in
    let shown : outs_of c.deref-2.result.now ≡ lines_from plan seen items 1 items =
    ap outs_of c.deref-2.ensures.value
    ∙ c.in_ok-events.ensures
    ∙ ap (map line_shown) c.deref.ensures.value
    ∙ c.in_ok-lines.ensures
    ∙ ap (λ is. lines_from plan seen is 1 is) c.items.ensures in
    all_writable plan.rate c.deref-2.result.now (subst (All (IsWritable plan.rate)) (sym shown) fits)
