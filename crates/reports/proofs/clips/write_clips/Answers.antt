-- `write_clips`: writes the clip table of one channel of this rate: the line of each clip, by number.
use Rattle.std.proofs.Common.{[], ◌++◌, length, ap, subst}
use Rattle.std.specs.List.{flat_map}
use Rattle.std.proofs.lemmas.List.{append-nil}
use Rattle.report_texts.specs.Output.{AppendsPart}
use Rattle.report_texts.proofs.PartLemmas.{nothing_yet, on_err, part_behind}
use Rattle.report_texts.specs.Clips.{clip_line, clips_end}
use Rattle.reports.proofs.clips.write_clips.Goals as goal

pub returns-in_err-write_clip_lines-clause-err : goal.returns-in_err-write_clip_lines-clause-err
returns-in_err-write_clip_lines-clause-err g c =
    on_err c.from_residual.result
    (part_behind _ _ _ [] (flat_map (clip_line c.args.rate) c.args.clips.now) _
    (nothing_yet (g.W.Write.contents c.args.output.now)) c.in_err-write_clip_lines.ensures.err)

pub returns-in_err-write_clips_end-clause-err : goal.returns-in_err-write_clips_end-clause-err
returns-in_err-write_clips_end-clause-err g c =
    let lines = flat_map (clip_line c.args.rate) c.args.clips.now in
    let end = clips_end (length c.args.clips.now) in
    on_err c.from_residual-in_err-write_clips_end.result
    (subst (AppendsPart (g.W.Write.contents c.args.output.now) (g.W.Write.contents c.write_clips_end.new.output))
    (ap (λ l. lines ++ l) (append-nil end))
    (part_behind _ _ _ lines end [] c.in_ok-write_clip_lines.ensures.ok c.in_err-write_clips_end.ensures.err))
