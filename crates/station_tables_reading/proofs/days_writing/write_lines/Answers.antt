-- `write_lines`: the line of each of these days.
use Rattle.std.proofs.Common.{sym, subst, arith, take, drop, suc, get_or}
use Rattle.std.specs.List.{flat_map}
use Rattle.report_texts.specs.Output.{AppendsPart}
use Rattle.report_texts.specs.Days.{counts_line}
use Rattle.report_texts.proofs.PartLemmas.{part_behind}
use Rattle.report_texts.proofs.LineLemmas.{on_err, line_read, lines_read}
use Rattle.station_tables_reading.proofs.days_writing.write_lines.Goals as goal

pub returns-in_err-write_day-clause-err : goal.returns-in_err-write_day-clause-err
returns-in_err-write_day-clause-err g c =
    let i = c.loop-day.day-index in
    let counts = c.args.counts.now in
    on_err c.from_residual.result
    (subst (AppendsPart (g.W.Write.contents c.args.output.now) (g.W.Write.contents c.write_day.new.output))
    (sym (lines_read counts_line counts i _ (omega arith)))
    (part_behind _ _ _ (flat_map counts_line (take i counts)) (counts_line (get_or counts i _))
    (flat_map counts_line (drop (suc i) counts)) c.loop-day.invariant c.in_err-write_day.ensures.err))

pub loop-day-preserved : goal.loop-day-preserved
loop-day-preserved g c =
    line_read counts_line c.args.counts.now c.loop-day.day-index _ _ _ _ (omega arith) c.loop-day.invariant
    c.in_ok-write_day.ensures.ok
