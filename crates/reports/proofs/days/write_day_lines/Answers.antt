-- `write_day_lines`: the line of each day, in their order.
use Rattle.std.proofs.Common.{sym, ap, ◌∙◌, subst, arith, take}
use Rattle.std.specs.List.{flat_map}
use Rattle.std.specs.Io.KnownBytes.{Appends}
use Rattle.report_texts.specs.Output.{AppendsPart}
use Rattle.report_texts.proofs.PartLemmas.{part_behind}
use Rattle.report_texts.specs.Days.{batches_of, counts_line, day_counts, day_line}
use Rattle.report_texts.proofs.LineLemmas.{on_err, lines_at, line_appended}
use Rattle.reports.proofs.days.write_day_lines.Goals as goal

pub returns-in_err-write_day-clause-err : goal.returns-in_err-write_day-clause-err
returns-in_err-write_day-clause-err g c =
    let aired = c.args.aired.now in
    let line = day_line aired in
    let days = c.args.days.now in
    let i = c.loop-day.day-index in
    let day = c.day-item.result in
    let told =
    ap counts_line
    (c.counts_of.ensures
    ∙ ap (λ n. day_counts n day) (c.batches_of.ensures ∙ ap (batches_of aired) c.number.ensures)) in
    on_err c.from_residual.result
    (subst (AppendsPart (g.W.Write.contents c.args.output.now) (g.W.Write.contents c.write_day.new.output))
    (sym (lines_at line days i day (omega arith) c.day-item.is))
    (part_behind _ _ _ (flat_map line (take i days)) _ _ c.loop-day.invariant
    (subst (AppendsPart (g.W.Write.contents c.loop-day.output) (g.W.Write.contents c.write_day.new.output)) told
    c.in_err-write_day.ensures.err)))

pub loop-day-preserved : goal.loop-day-preserved
loop-day-preserved g c =
    let aired = c.args.aired.now in
    let day = c.day-item.result in
    let told =
    ap counts_line
    (c.counts_of.ensures
    ∙ ap (λ n. day_counts n day) (c.batches_of.ensures ∙ ap (batches_of aired) c.number.ensures)) in
    line_appended (day_line aired) c.args.days.now c.loop-day.day-index day _ _ _ (omega arith) c.day-item.is
    c.loop-day.invariant
    (subst (Appends (g.W.Write.contents c.loop-day.output) (g.W.Write.contents c.write_day.new.output)) told
    c.in_ok-write_day.ensures.ok)
