-- `add_batch`: adds a batch of a channel's day, whose number is the next one of the day.
use Rattle.std.proofs.Common.{sym, ap, subst, arith}
use Rattle.sqlite.specs.State.{HasCleanDisk}
use Rattle.sqlite_keyed.specs.Lists.{insert_sorted}
use Rattle.station_tables_records.specs.Inside.{inside}
use Rattle.station_tables_records.specs.MadeAirings.{AiredSet, batch_cmp, row_of_batch}
use Rattle.station_tables_records.proofs.AiredTurns.{with_lines, AreNewLines}
use Rattle.station_tables_records.proofs.AddLemmas.{lacks_next_batch, next_lines_are_new}
use Rattle.station_tables_records.specs.TablePairs.{on_batches, on_lines}
use Rattle.station_tables_records.proofs.TwoTableLemmas.{both_then, at_both}
use Rattle.station_tables_records.proofs.AiredLemmas.{batches_rise}
use Rattle.station_tables_statements.specs.AiredCalls.{airings_in, LacksBatchNow}
use Rattle.station_tables_statements.proofs.LookLemmas.{weaker}
use Rattle.station_tables_writing.proofs.PutLemmas.{batch_added}
use Rattle.station_tables_writing.proofs.airing_writing.add_batch.Goals as goal

pub returns-clause-adds : goal.returns-clause-adds
returns-clause-adds g c next held clean =
    let old = inside g.S.Store c.args.tx.now in
    let mid = inside g.S.Store c.insert_batch.new.tx in
    let last = inside g.S.Store c.insert_lines.new.tx in
    let ch = c.args.channel in
    let day = c.args.batch.day in
    let number = c.args.batch.number in
    let rows = c.args.rows.now in
    let clean_mid : HasCleanDisk mid = omega (arith, c.insert_lines.ensures.writes.survives.clean, clean) in
    let early : HasCleanDisk old = omega (arith, c.insert_batch.ensures.writes.survives.clean, clean_mid) in
    let lacks : LacksBatchNow ch day number old =
    λ first opened. let so = next first opened in
    lacks_next_batch ch day number (airings_in old) (batches_rise old.now.trees (held first opened).first) so.whole
    so.next in
    let first : AiredSet → AiredSet = on_batches (insert_sorted batch_cmp (row_of_batch ch day number)) in
    let rest : AiredSet → AiredSet = on_lines (with_lines ch day number 1 rows) in
    let one = c.in_ok-insert_batch.ensures.makes lacks held clean_mid in
    let opened = one.shown.was_open in
    let so = next early opened in
    let new_old : AreNewLines ch day number 1 rows (airings_in old).lines =
    next_lines_are_new ch day number rows (airings_in old) (batches_rise old.now.trees (held early opened).first)
    so.whole so.next in
    let new : AreNewLines ch day number 1 rows (airings_in mid).lines =
    subst (AreNewLines ch day number 1 rows) (sym (ap (λ (s : AiredSet). s.lines) one.rows_are)) new_old in
    weaker c.insert_lines.result
    (λ two. batch_added ch day number rows old last (held early opened) so
    (both_then first rest old mid last one two))
    (c.insert_lines.ensures.makes new (at_both first old mid one) clean)
