-- `write_lent`: writes the lent table of one channel: the line of each clip that is lent to it, by owner and number.
use Rattle.std.proofs.Common.{[], ◌++◌, length, ap, subst}
use Rattle.std.specs.List.{flat_map}
use Rattle.std.proofs.lemmas.List.{append-nil}
use Rattle.report_texts.specs.Output.{AppendsPart}
use Rattle.report_texts.proofs.PartLemmas.{nothing_yet, on_err, part_behind}
use Rattle.report_texts.specs.Lent.{lent_line, lent_end}
use Rattle.reports.proofs.lent.write_lent.Goals as goal

pub returns-in_err-write_lines-clause-err : goal.returns-in_err-write_lines-clause-err
returns-in_err-write_lines-clause-err g c =
    on_err c.from_residual.result
    (part_behind _ _ _ [] (flat_map lent_line c.args.grants.now) _
    (nothing_yet (g.W.Write.contents c.args.output.now)) c.in_err-write_lines.ensures.err)

pub returns-in_err-write_lent_end-clause-err : goal.returns-in_err-write_lent_end-clause-err
returns-in_err-write_lent_end-clause-err g c =
    let lines = flat_map lent_line c.args.grants.now in
    let end = lent_end (length c.args.grants.now) in
    on_err c.from_residual-in_err-write_lent_end.result
    (subst (AppendsPart (g.W.Write.contents c.args.output.now) (g.W.Write.contents c.write_lent_end.new.output))
    (ap (λ l. lines ++ l) (append-nil end))
    (part_behind _ _ _ lines end [] c.in_ok-write_lines.ensures.ok c.in_err-write_lent_end.ensures.err))
