-- `write_days_of`: the days table.
use Rattle.std.proofs.Common.{[], ◌++◌, length, sym, ◌∙◌, ap, subst}
use Rattle.std.specs.List.{flat_map}
use Rattle.std.proofs.lemmas.List.{append-nil, length-map}
use Rattle.report_texts.specs.Output.{AppendsPart}
use Rattle.report_texts.proofs.PartLemmas.{nothing_yet, part_behind}
use Rattle.report_texts.specs.Days.{day_line, days_end}
use Rattle.report_texts.proofs.LineLemmas.{on_err, map_err}
use Rattle.channel_view_model.specs.Tables.{rows_alone}
use Rattle.channel_view_rules.proofs.row_tables.write_days_of.Goals as goal

pub returns-in_err-write_day_lines-clause-err : goal.returns-in_err-write_day_lines-clause-err
returns-in_err-write_day_lines-clause-err g c =
    on_err c.from_residual.result
    (part_behind _ _ _ [] (flat_map (day_line (rows_alone c.args.aired.now)) (rows_alone c.args.days.now)) _
    (nothing_yet (g.W.Write.contents c.args.output.now)) c.in_err-write_day_lines.ensures.err)

pub returns-clause-err : goal.returns-clause-err
returns-clause-err g c =
    let lines = flat_map (day_line (rows_alone c.args.aired.now)) (rows_alone c.args.days.now) in
    let end = days_end (length c.args.days.now) in
    map_err c.write_days_end.result
    (λ part. subst (AppendsPart (g.W.Write.contents c.args.output.now) (g.W.Write.contents c.write_days_end.new.output))
    (ap (λ l. lines ++ l) (append-nil end ∙ ap days_end (sym (length-map c.args.days.now (λ r. r.1)))))
    (part_behind _ _ _ lines end [] c.in_ok-write_day_lines.ensures.ok part))
    c.write_days_end.ensures.err
