-- `write_clips_of`: the clip table.
use Rattle.std.proofs.Common.{[], ◌++◌, length, sym, ◌∙◌, ap, subst}
use Rattle.std.specs.List.{flat_map}
use Rattle.std.proofs.lemmas.List.{append-nil, length-map}
use Rattle.report_texts.specs.Output.{AppendsPart}
use Rattle.report_texts.proofs.PartLemmas.{nothing_yet, on_err, part_behind}
use Rattle.report_texts.specs.Clips.{clip_line, clips_end}
use Rattle.channel_view_model.specs.Tables.{rows_alone}
use Rattle.channel_view_rules.proofs.row_tables.write_clips_of.Goals as goal

pub returns-in_err-write_clip_lines-clause-err : goal.returns-in_err-write_clip_lines-clause-err
returns-in_err-write_clip_lines-clause-err g c =
    on_err c.from_residual.result
    (part_behind _ _ _ [] (flat_map (clip_line c.args.rate) (rows_alone c.args.clips.now)) _
    (nothing_yet (g.W.Write.contents c.args.output.now)) c.in_err-write_clip_lines.ensures.err)

pub returns-in_err-write_clips_end-clause-err : goal.returns-in_err-write_clips_end-clause-err
returns-in_err-write_clips_end-clause-err g c =
    let lines = flat_map (clip_line c.args.rate) (rows_alone c.args.clips.now) in
    let end = clips_end (length c.args.clips.now) in
    on_err c.from_residual-in_err-write_clips_end.result
    (subst (AppendsPart (g.W.Write.contents c.args.output.now) (g.W.Write.contents c.write_clips_end.new.output))
    (ap (λ l. lines ++ l) (append-nil end ∙ ap clips_end (sym (length-map c.args.clips.now (λ r. r.1)))))
    (part_behind _ _ _ lines end [] c.in_ok-write_clip_lines.ensures.ok c.in_err-write_clips_end.ensures.err))
