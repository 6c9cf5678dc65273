-- `write_clip_lines`: writes the line of each clip of a channel of this rate, in their order.
use Rattle.std.proofs.Common.{sym, subst, arith, take}
use Rattle.std.specs.List.{flat_map}
use Rattle.report_texts.specs.Output.{AppendsPart}
use Rattle.report_texts.proofs.PartLemmas.{part_behind}
use Rattle.report_texts.specs.Clips.{clip_line}
use Rattle.report_texts.proofs.LineLemmas.{on_err, lines_at, line_appended}
use Rattle.reports.proofs.clips.write_clip_lines.Goals as goal

pub returns-in_err-write_clip-clause-err : goal.returns-in_err-write_clip-clause-err
returns-in_err-write_clip-clause-err g c =
    let line = clip_line c.args.rate in
    let clips = c.args.clips.now in
    let i = c.loop-clip.clip-index in
    on_err c.from_residual.result
    (subst (AppendsPart (g.W.Write.contents c.args.output.now) (g.W.Write.contents c.write_clip.new.output))
    (sym (lines_at line clips i c.clip-item.result (omega arith) c.clip-item.is))
    (part_behind _ _ _ (flat_map line (take i clips)) _ _ c.loop-clip.invariant c.in_err-write_clip.ensures.err))

pub loop-clip-preserved : goal.loop-clip-preserved
loop-clip-preserved g c =
    line_appended (clip_line c.args.rate) c.args.clips.now c.loop-clip.clip-index c.clip-item.result _ _ _ (omega arith)
    c.clip-item.is c.loop-clip.invariant c.in_ok-write_clip.ensures.ok
