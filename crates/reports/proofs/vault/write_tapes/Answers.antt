-- `write_tapes`: writes the line of each tape, in their order.
use Rattle.std.proofs.Common.{sym, subst, arith, take}
use Rattle.std.specs.List.{flat_map}
use Rattle.report_texts.specs.Output.{AppendsPart}
use Rattle.report_texts.proofs.PartLemmas.{part_behind}
use Rattle.report_texts.specs.Vault.{tape_line}
use Rattle.report_texts.proofs.LineLemmas.{on_err, lines_at}
use Rattle.reports.proofs.vault.write_tapes.Goals as goal

pub returns-in_err-write_tape-clause-err : goal.returns-in_err-write_tape-clause-err
returns-in_err-write_tape-clause-err g c =
    let tapes = c.args.tapes.now in
    let i = c.loop-tape.tape-index in
    on_err c.from_residual.result
    (subst (AppendsPart (g.W.Write.contents c.args.output.now) (g.W.Write.contents c.write_tape.new.output))
    (sym (lines_at tape_line tapes i c.tape-item.result (omega arith) c.tape-item.is))
    (part_behind _ _ _ (flat_map tape_line (take i tapes)) _ _ c.loop-tape.invariant c.in_err-write_tape.ensures.err))
