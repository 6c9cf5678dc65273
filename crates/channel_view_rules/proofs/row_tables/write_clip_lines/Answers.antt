-- `write_clip_lines`: writes the line of each clip of these rows, in their order.
use Rattle.std.proofs.Common.{◌≡◌, ℕ, sym, ◌∙◌, ap, subst, arith, take}
use Rattle.std.specs.List.{flat_map, list_all}
use Rattle.std.specs.Io.KnownBytes.{Appends}
use Rattle.std.proofs.lemmas.List.{take_all}
use Rattle.std.proofs.lemmas.List.Folds.{list_all-map, list_all_at}
use Rattle.std.proofs.lemmas.Grind.{common_steps}
use Rattle.vault_core.specs.declared.clip.Clip.{Clip}
use Rattle.report_texts.specs.Output.{AppendsPart}
use Rattle.report_texts.proofs.PartLemmas.{part_behind}
use Rattle.report_texts.specs.Fields.{has_label}
use Rattle.report_texts.specs.Clips.{clip_line, clips_have_labels}
use Rattle.channel_view_model.specs.Tables.{rows_alone}
use Rattle.report_texts.proofs.LineLemmas.{on_err, lines_at, line_appended}
use Rattle.channel_view_model.proofs.TableLemmas.{lines_of_rows}
use Rattle.channel_view_rules.proofs.row_tables.write_clip_lines.Goals as goal

pub returns-in_err-write_clip-clause-err : goal.returns-in_err-write_clip-clause-err
returns-in_err-write_clip-clause-err g c =
    let line = λ (r : ℕ × Clip). clip_line c.args.rate r.1 in
    let rows = c.args.clips.now in
    let i = c.loop-row.row-index in
    on_err c.from_residual.result
    (subst (AppendsPart (g.W.Write.contents c.args.output.now) (g.W.Write.contents c.write_clip.new.output))
    (sym (lines_at line rows i c.row-item.result (omega arith) c.row-item.is)
    ∙ lines_of_rows (clip_line c.args.rate) rows)
    (part_behind _ _ _ (flat_map line (take i rows)) _ _ c.loop-row.invariant c.in_err-write_clip.ensures.err))

pub returns-in_err-write_clip-clause-unlabelled : goal.returns-in_err-write_clip-clause-unlabelled
returns-in_err-write_clip-clause-unlabelled g c =
    let rows = c.args.clips.now in
    let labelled = λ (k : Clip). has_label c.args.rate k.src_first in
    let alone : clips_have_labels c.args.rate (rows_alone rows) ≡ list_all (λ r. labelled r.1) rows =
    list_all-map labelled (λ r. r.1) rows in
    grind (arith, common_steps, alone, list_all_at)

pub loop-row-preserved : goal.loop-row-preserved
loop-row-preserved g c =
    line_appended (λ (r : ℕ × Clip). clip_line c.args.rate r.1) c.args.clips.now c.loop-row.row-index c.row-item.result
    _ _ _ (omega arith) c.row-item.is c.loop-row.invariant c.in_ok-write_clip.ensures.ok

pub returns-clause-ok : goal.returns-clause-ok
returns-clause-ok g c =
    let line = λ (r : ℕ × Clip). clip_line c.args.rate r.1 in
    let rows = c.args.clips.now in
    subst (Appends (g.W.Write.contents c.args.output.now) (g.W.Write.contents c.loop-row.output))
    (ap (flat_map line) (take_all c.loop-row.row-index rows (omega arith))
    ∙ lines_of_rows (clip_line c.args.rate) rows)
    c.loop-row.invariant
