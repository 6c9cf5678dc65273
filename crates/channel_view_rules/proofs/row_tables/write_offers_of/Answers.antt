-- `write_offers_of`: the offer table.
use Rattle.std.proofs.Common.{[], ◌++◌, length, sym, ◌∙◌, ap, subst}
use Rattle.std.specs.List.{flat_map}
use Rattle.std.proofs.lemmas.List.{append-nil, length-map}
use Rattle.report_texts.specs.Output.{AppendsPart}
use Rattle.report_texts.proofs.PartLemmas.{nothing_yet, part_behind}
use Rattle.report_texts.specs.Offers.{offer_line, offers_end}
use Rattle.report_texts.proofs.LineLemmas.{on_err, map_err}
use Rattle.channel_view_model.specs.Tables.{rows_alone}
use Rattle.channel_view_rules.proofs.row_tables.write_offers_of.Goals as goal

pub returns-in_err-write_offer_lines-clause-err : goal.returns-in_err-write_offer_lines-clause-err
returns-in_err-write_offer_lines-clause-err g c =
    on_err c.from_residual.result
    (part_behind _ _ _ [] (flat_map offer_line (rows_alone c.args.offers.now)) _
    (nothing_yet (g.W.Write.contents c.args.output.now)) c.in_err-write_offer_lines.ensures.err)

pub returns-clause-err : goal.returns-clause-err
returns-clause-err g c =
    let lines = flat_map offer_line (rows_alone c.args.offers.now) in
    let end = offers_end (length c.args.offers.now) in
    map_err c.write_offers_end.result
    (λ part. subst
    (AppendsPart (g.W.Write.contents c.args.output.now) (g.W.Write.contents c.write_offers_end.new.output))
    (ap (λ l. lines ++ l) (append-nil end ∙ ap offers_end (sym (length-map c.args.offers.now (λ r. r.1)))))
    (part_behind _ _ _ lines end [] c.in_ok-write_offer_lines.ensures.ok part))
    c.write_offers_end.ensures.err
