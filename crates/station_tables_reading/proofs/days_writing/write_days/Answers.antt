-- `write_days`: writes the days table of the channel, whose row of the plan this is.
use Rattle.std.proofs.Common.{◌≡◌, [], ◌++◌, length, ap, ◌∙◌, subst, arith}
use Rattle.std.specs.List.{flat_map}
use Rattle.std.specs.Vec.{vec_len}
use Rattle.std.specs.Io.KnownBytes.{Appends}
use Rattle.std.proofs.lemmas.List.{append-nil, length-map}
use Rattle.report_texts.specs.Output.{AppendsPart}
use Rattle.report_texts.specs.Days.{batches_of, counts_line, day_counts, day_line, days_end}
use Rattle.report_texts.proofs.PartLemmas.{nothing_yet, part_behind, whole_behind}
use Rattle.channel_view_model.specs.Centre.{view_at}
use Rattle.station_tables_records.specs.Inside.{inside}
use Rattle.station_tables_statements.specs.Calls.{set_in}
use Rattle.station_tables_reading.proofs.PageTextLemmas.{begun}
use Rattle.station_tables_reading.proofs.DayLineLemmas.{lines_told}
use Rattle.station_tables_reading.proofs.days_writing.write_days.Goals as goal

pub returns-in_err-counts-clause-written : goal.returns-in_err-counts-clause-written
returns-in_err-counts-clause-written g c centre clean holds there =
    begun _ _ _ _ c.from_residual.ensures.0 (0, nothing_yet (g.W.Write.contents c.args.output.now))

pub returns-in_err-write_lines-clause-written : goal.returns-in_err-write_lines-clause-written
returns-in_err-write_lines-clause-written g c centre clean holds there =
    let plan = c.args.plan.now in
    let view = view_at c.args.channel (set_in (inside g.S.Store c.args.tx.now)) plan in
    let start = g.W.Write.contents c.args.output.now in
    let end = g.W.Write.contents c.write_lines.new.output in
    let told =
    ap (flat_map counts_line)
    (c.deref.ensures.value ∙ c.in_ok-counts.ensures.counts centre clean holds there)
    ∙ lines_told view.aired view.days in
    begun _ _ _ _ c.from_residual-in_err-write_lines.ensures.0
    (part_behind start start end [] (flat_map (day_line view.aired) view.days) (days_end (length view.days))
    (nothing_yet start) (subst (AppendsPart start end) told c.in_err-write_lines.ensures.err))

pub returns-in_err-write_days_end-clause-written : goal.returns-in_err-write_days_end-clause-written
returns-in_err-write_days_end-clause-written g c centre clean holds there =
    let plan = c.args.plan.now in
    let view = view_at c.args.channel (set_in (inside g.S.Store c.args.tx.now)) plan in
    let lines = flat_map (day_line view.aired) view.days in
    let last = days_end (length view.days) in
    let start = g.W.Write.contents c.args.output.now in
    let mid = g.W.Write.contents c.write_lines.new.output in
    let end = g.W.Write.contents c.write_days_end.new.output in
    let same = c.in_ok-counts.ensures.counts centre clean holds there in
    let told = ap (flat_map counts_line) (c.deref.ensures.value ∙ same) ∙ lines_told view.aired view.days in
    let ok = c.in_ok-counts.counts.ok in
    let len = c.deref.ensures.len in
    let value = c.deref.ensures.value in
    let counted : vec_len c.in_ok-counts.counts ≡ length c.in_ok-counts.counts.items = grind (arith, ok, len, value) in
    let count =
    c.len.ensures ∙ counted ∙ ap length same
    ∙ length-map view.days (λ d. day_counts (batches_of view.aired d.number) d) in
    begun _ _ _ _ c.from_residual-in_err-write_days_end.ensures.0
    (subst (λ l. AppendsPart start end (lines ++ l)) (append-nil last)
    (part_behind start mid end lines last [] (subst (Appends start mid) told c.in_ok-write_lines.ensures.ok)
    (subst (λ n. AppendsPart mid end (days_end n)) count c.in_err-write_days_end.ensures.err)))

pub returns-clause-written : goal.returns-clause-written
returns-clause-written g c centre clean holds there =
    let plan = c.args.plan.now in
    let view = view_at c.args.channel (set_in (inside g.S.Store c.args.tx.now)) plan in
    let lines = flat_map (day_line view.aired) view.days in
    let start = g.W.Write.contents c.args.output.now in
    let mid = g.W.Write.contents c.write_lines.new.output in
    let end = g.W.Write.contents c.write_days_end.new.output in
    let same = c.in_ok-counts.ensures.counts centre clean holds there in
    let told = ap (flat_map counts_line) (c.deref.ensures.value ∙ same) ∙ lines_told view.aired view.days in
    let ok = c.in_ok-counts.counts.ok in
    let len = c.deref.ensures.len in
    let value = c.deref.ensures.value in
    let counted : vec_len c.in_ok-counts.counts ≡ length c.in_ok-counts.counts.items = grind (arith, ok, len, value) in
    let count =
    c.len.ensures ∙ counted ∙ ap length same
    ∙ length-map view.days (λ d. day_counts (batches_of view.aired d.number) d) in
    whole_behind start mid end lines (days_end (length view.days))
    (subst (Appends start mid) told c.in_ok-write_lines.ensures.ok)
    (subst (λ n. Appends mid end (days_end n)) count c.in_ok-write_days_end.ensures.ok)
