-- `sweep`: adds the runs of a day to an empty list with room for them.
use Rattle.std.proofs.Common.{◌∙◌, ◌-◌, sym, replicate, arith}
use Rattle.asrun_match.specs.Runs.{spelled}
use Rattle.asrun_match.proofs.SweepLemmas.{turn_by, item_within, list_turn, length_turn, none_left, statuses_is}
use Rattle.asrun_match.proofs.sweep.sweep.Goals as goal

pub piece_at-piece-requires-clause-within : goal.piece_at-piece-requires-clause-within
piece_at-piece-requires-clause-within c =
    let within =
    item_within c.args.frames c.loop-item.at c.in-Some.item.now c.loop-item.items.now c.in-Some.ensures.value
    c.loop-item.invariant.cover in
    omega arith

pub loop-item-preserved : goal.loop-item-preserved
loop-item-preserved c =
    let e = c.piece_at-piece.result.end in
    let s = c.piece_at-piece.result.status in
    let before = spelled c.loop-item.runs.items in
    let after = spelled c.push.new.runs.items in
    let piece = c.piece_at-piece.ensures in
    let items = c.items_behind-items.ensures in
    let rows = c.rows_behind-rows.ensures in
    let t =
    turn_by c.args.frames c.loop-item.at c.in-Some.item.now c.loop-item.items.now c.loop-item.rows.now e s
    c.items_behind-items.result.now c.rows_behind-rows.result.now
    c.in-Some.ensures.value piece.alone piece.before piece.beside items.none items.lasts items.ended rows.none
    rows.lasts rows.ended
    c.loop-item.invariant.cover c.loop-item.invariant.ahead in
    record {
      cover = t.cover;
      ahead = t.ahead;
      behind = length_turn before after s c.loop-item.at e c.push.ensures.spelled c.loop-item.invariant.behind t.later;
      row = c.push.ensures.runs;
      list =
          list_turn before after (replicate (e - c.loop-item.at) s) _ _ _ c.push.ensures.spelled t.spelled
          c.loop-item.invariant.list;
      room = omega (arith, t.fewer, c.loop-item.invariant.room, c.push.ensures.len);
      space = omega (arith, c.loop-item.invariant.space, c.push.ensures.capacity);
    }

pub loop-item-smaller : goal.loop-item-smaller
loop-item-smaller c =
    let e = c.piece_at-piece.result.end in
    let s = c.piece_at-piece.result.status in
    let piece = c.piece_at-piece.ensures in
    let items = c.items_behind-items.ensures in
    let rows = c.rows_behind-rows.ensures in
    (turn_by c.args.frames c.loop-item.at c.in-Some.item.now c.loop-item.items.now c.loop-item.rows.now e s
    c.items_behind-items.result.now c.rows_behind-rows.result.now
    c.in-Some.ensures.value piece.alone piece.before piece.beside items.none items.lasts items.ended rows.none
    rows.lasts rows.ended
    c.loop-item.invariant.cover c.loop-item.invariant.ahead).fewer

pub returns-clause-runs : goal.returns-clause-runs
returns-clause-runs c = record {
  spelled =
      none_left c.args.frames c.loop-item.at c.loop-item.items.now c.loop-item.rows.now (spelled c.loop-item.runs.items)
      _ c.in_default.ensures.value c.loop-item.invariant.cover c.loop-item.invariant.list
      ∙ sym (statuses_is c.args.frames c.args.plan.now c.args.airing.now);
  longest = c.loop-item.invariant.row;
}
