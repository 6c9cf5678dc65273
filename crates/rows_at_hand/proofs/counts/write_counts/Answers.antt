-- `write_counts`: the days table that tells this.
use Rattle.std.proofs.Common.{[], ◌++◌, length, ap, subst}
use Rattle.std.specs.List.{flat_map}
use Rattle.std.proofs.lemmas.List.{append-nil}
use Rattle.report_texts.specs.Output.{AppendsPart}
use Rattle.report_texts.specs.Days.{counts_line, days_end}
use Rattle.report_texts.proofs.PartLemmas.{nothing_yet, part_behind}
use Rattle.report_texts.proofs.LineLemmas.{on_err, map_err}
use Rattle.rows_at_hand.proofs.counts.write_counts.Goals as goal

pub returns-in_err-write_lines-clause-err : goal.returns-in_err-write_lines-clause-err
returns-in_err-write_lines-clause-err g c =
    on_err c.from_residual.result
    (part_behind _ _ _ [] (flat_map counts_line c.args.counts.now) _
    (nothing_yet (g.W.Write.contents c.args.output.now)) c.in_err-write_lines.ensures.err)

pub returns-clause-err : goal.returns-clause-err
returns-clause-err g c =
    let lines = flat_map counts_line c.args.counts.now in
    let end = days_end (length c.args.counts.now) in
    map_err c.write_days_end.result
    (λ part. subst (AppendsPart (g.W.Write.contents c.args.output.now) (g.W.Write.contents c.write_days_end.new.output))
    (ap (λ l. lines ++ l) (append-nil end))
    (part_behind _ _ _ lines end [] c.in_ok-write_lines.ensures.ok part))
    c.write_days_end.ensures.err
