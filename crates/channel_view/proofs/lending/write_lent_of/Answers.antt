-- `write_lent_of`: the lent table of this channel.
use Rattle.std.proofs.Common.{[], ◌++◌, ◌∙◌, ap, subst}
use Rattle.std.specs.List.{flat_map}
use Rattle.std.specs.Io.KnownBytes.{Appends}
use Rattle.std.proofs.lemmas.List.{append-nil}
use Rattle.report_texts.specs.Output.{AppendsPart}
use Rattle.report_texts.proofs.PartLemmas.{nothing_yet, part_behind, whole_behind}
use Rattle.report_texts.specs.Lent.{lent_line, lent_end}
use Rattle.report_texts.proofs.LineLemmas.{on_err}
use Rattle.channel_view_model.specs.Seen.{grants_to}
use Rattle.channel_view_model.proofs.LentLemmas.{grants_counted}
use Rattle.channel_view.proofs.lending.write_lent_of.Goals as goal

pub returns-in_err-write_grant_lines-clause-err : goal.returns-in_err-write_grant_lines-clause-err
returns-in_err-write_grant_lines-clause-err g c =
    on_err c.from_residual.result
    (part_behind _ _ _ [] (flat_map lent_line (grants_to c.args.channel c.args.offers.now)) _
    (nothing_yet (g.W.Write.contents c.args.output.now)) c.in_err-write_grant_lines.ensures.err)

pub returns-in_err-write_lent_end-clause-err : goal.returns-in_err-write_lent_end-clause-err
returns-in_err-write_lent_end-clause-err g c =
    let lines = flat_map lent_line (grants_to c.args.channel c.args.offers.now) in
    let end = lent_end c.grant_count.result in
    on_err c.from_residual-in_err-write_lent_end.result
    (subst (AppendsPart (g.W.Write.contents c.args.output.now) (g.W.Write.contents c.write_lent_end.new.output))
    (ap (λ l. lines ++ l)
    (append-nil end ∙ ap lent_end (c.grant_count.ensures ∙ grants_counted c.args.channel c.args.offers.now)))
    (part_behind _ _ _ lines end [] c.in_ok-write_grant_lines.ensures.ok c.in_err-write_lent_end.ensures.err))

pub returns-clause-ok : goal.returns-clause-ok
returns-clause-ok g c =
    let lines = flat_map lent_line (grants_to c.args.channel c.args.offers.now) in
    let count = c.grant_count.ensures ∙ grants_counted c.args.channel c.args.offers.now in
    subst
    (λ n. Appends (g.W.Write.contents c.args.output.now) (g.W.Write.contents c.write_lent_end.new.output)
    (lines ++ lent_end n)) count
    (whole_behind _ _ _ lines (lent_end c.grant_count.result) c.in_ok-write_grant_lines.ensures.ok
    c.in_ok-write_lent_end.ensures.ok)
