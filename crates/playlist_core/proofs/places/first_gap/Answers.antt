-- `first_gap`: the first frame of the day that no item covers.
use Rattle.std.proofs.Common.{arith}
use Rattle.std.proofs.lemmas.Bool.Decides.{nat_tests}
use Rattle.std.proofs.lemmas.List.{at_drop_more, at_drop_all}
use Rattle.playlist_core.specs.Item.{planned}
use Rattle.playlist_core.proofs.GapLemmas.{gap_from, gap-first_empty}
use Rattle.playlist_core.proofs.places.first_gap.Goals as goal

pub returns-then-covered-from : goal.returns-then-covered-from
returns-then-covered-from c =
    let all = gap-first_empty planned c.args.frames c.args.items.now c.requires in
    let turn =
    at_drop_more (gap_from planned c.args.frames c.loop-item.covered) c.args.items.now c.loop-item.item-index in
    grind (arith, nat_tests, turn, all)

pub returns-then-covered-from-2 : goal.returns-then-covered-from-2
returns-then-covered-from-2 c =
    let all = gap-first_empty planned c.args.frames c.args.items.now c.requires in
    let end =
    at_drop_all (gap_from planned c.args.frames c.loop-item.covered) c.args.items.now c.loop-item.item-index in
    grind (arith, nat_tests, end, all)

pub returns-else-covered-from-2 : goal.returns-else-covered-from-2
returns-else-covered-from-2 c =
    let all = gap-first_empty planned c.args.frames c.args.items.now c.requires in
    let end =
    at_drop_all (gap_from planned c.args.frames c.loop-item.covered) c.args.items.now c.loop-item.item-index in
    grind (arith, nat_tests, end, all)
