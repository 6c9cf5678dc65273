-- `write_day_lines`: writes the line of each day of these rows, in their order.
use Rattle.std.proofs.Common.{ℕ, sym, ◌∙◌, ap, subst, arith, take}
use Rattle.std.specs.List.{flat_map}
use Rattle.std.specs.Io.KnownBytes.{Appends}
use Rattle.std.proofs.lemmas.List.{take_all}
use Rattle.playlist_core.specs.Day.{Day}
use Rattle.report_texts.specs.Output.{AppendsPart}
use Rattle.report_texts.proofs.PartLemmas.{part_behind}
use Rattle.report_texts.specs.Days.{batches_of, counts_line, day_counts, day_line}
use Rattle.report_texts.proofs.LineLemmas.{on_err, lines_at, line_appended}
use Rattle.channel_view_model.specs.Tables.{rows_alone}
use Rattle.channel_view_model.proofs.TableLemmas.{lines_of_rows}
use Rattle.channel_view_rules.proofs.row_tables.write_day_lines.Goals as goal

pub returns-in_err-write_day-clause-err : goal.returns-in_err-write_day-clause-err
returns-in_err-write_day-clause-err g c =
    let aired = rows_alone c.args.aired.now in
    let one = day_line aired in
    let line = λ (r : ℕ × Day). one r.1 in
    let rows = c.args.days.now in
    let i = c.loop-row.row-index in
    let day = c.row-item.result.1 in
    let told =
    ap counts_line
    (c.counts_of.ensures
    ∙ ap (λ n. day_counts n day) (c.batches_of.ensures ∙ ap (batches_of aired) c.number.ensures)) in
    on_err c.from_residual.result
    (subst (AppendsPart (g.W.Write.contents c.args.output.now) (g.W.Write.contents c.write_day.new.output))
    (sym (lines_at line rows i c.row-item.result (omega arith) c.row-item.is) ∙ lines_of_rows one rows)
    (part_behind _ _ _ (flat_map line (take i rows)) _ _ c.loop-row.invariant
    (subst (AppendsPart (g.W.Write.contents c.loop-row.output) (g.W.Write.contents c.write_day.new.output)) told
    c.in_err-write_day.ensures.err)))

pub loop-row-preserved : goal.loop-row-preserved
loop-row-preserved g c =
    let aired = rows_alone c.args.aired.now in
    let day = c.row-item.result.1 in
    let told =
    ap counts_line
    (c.counts_of.ensures
    ∙ ap (λ n. day_counts n day) (c.batches_of.ensures ∙ ap (batches_of aired) c.number.ensures)) in
    line_appended (λ r. day_line aired r.1) c.args.days.now c.loop-row.row-index c.row-item.result _ _ _ (omega arith)
    c.row-item.is c.loop-row.invariant
    (subst (Appends (g.W.Write.contents c.loop-row.output) (g.W.Write.contents c.write_day.new.output)) told
    c.in_ok-write_day.ensures.ok)

pub returns-clause-ok : goal.returns-clause-ok
returns-clause-ok g c =
    let one = day_line (rows_alone c.args.aired.now) in
    let line = λ (r : ℕ × Day). one r.1 in
    let rows = c.args.days.now in
    subst (Appends (g.W.Write.contents c.args.output.now) (g.W.Write.contents c.loop-row.output))
    (ap (flat_map line) (take_all c.loop-row.row-index rows (omega arith)) ∙ lines_of_rows one rows)
    c.loop-row.invariant
