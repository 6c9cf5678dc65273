-- `write_tapes`: writes the line of each tape of these rows, in their order.
use Rattle.std.proofs.Common.{ℕ, sym, ◌∙◌, ap, subst, arith, take}
use Rattle.std.specs.List.{flat_map}
use Rattle.std.specs.Io.KnownBytes.{Appends}
use Rattle.std.proofs.lemmas.List.{take_all}
use Rattle.vault_core.specs.declared.tape.Tape.{Tape}
use Rattle.report_texts.specs.Output.{AppendsPart}
use Rattle.report_texts.proofs.PartLemmas.{part_behind}
use Rattle.report_texts.specs.Vault.{tape_line}
use Rattle.report_texts.proofs.LineLemmas.{on_err, lines_at}
use Rattle.channel_view_model.proofs.TableLemmas.{lines_of_rows}
use Rattle.channel_view_rules.proofs.row_tables.write_tapes.Goals as goal

pub returns-in_err-write_tape-clause-err : goal.returns-in_err-write_tape-clause-err
returns-in_err-write_tape-clause-err g c =
    let line = λ (r : ℕ × Tape). tape_line r.1 in
    let rows = c.args.tapes.now in
    let i = c.loop-row.row-index in
    on_err c.from_residual.result
    (subst (AppendsPart (g.W.Write.contents c.args.output.now) (g.W.Write.contents c.write_tape.new.output))
    (sym (lines_at line rows i c.row-item.result (omega arith) c.row-item.is) ∙ lines_of_rows tape_line rows)
    (part_behind _ _ _ (flat_map line (take i rows)) _ _ c.loop-row.invariant c.in_err-write_tape.ensures.err))

pub returns-clause-ok : goal.returns-clause-ok
returns-clause-ok g c =
    let line = λ (r : ℕ × Tape). tape_line r.1 in
    let rows = c.args.tapes.now in
    subst (Appends (g.W.Write.contents c.args.output.now) (g.W.Write.contents c.loop-row.output))
    (ap (flat_map line) (take_all c.loop-row.row-index rows (omega arith)) ∙ lines_of_rows tape_line rows)
    c.loop-row.invariant
