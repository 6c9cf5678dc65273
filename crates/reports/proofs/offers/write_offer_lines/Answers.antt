-- `write_offer_lines`: writes the lines of these offers, in their order.
use Rattle.std.proofs.Common.{sym, subst, arith, take}
use Rattle.std.specs.List.{flat_map}
use Rattle.report_texts.specs.Output.{AppendsPart}
use Rattle.report_texts.proofs.PartLemmas.{part_behind}
use Rattle.report_texts.specs.Offers.{offer_line}
use Rattle.report_texts.proofs.LineLemmas.{on_err, lines_at, line_appended}
use Rattle.reports.proofs.offers.write_offer_lines.Goals as goal

pub returns-in_err-write_offer-clause-err : goal.returns-in_err-write_offer-clause-err
returns-in_err-write_offer-clause-err g c =
    let line = offer_line in
    let offers = c.args.offers.now in
    let i = c.loop-offer.offer-index in
    on_err c.from_residual.result
    (subst (AppendsPart (g.W.Write.contents c.args.output.now) (g.W.Write.contents c.write_offer.new.output))
    (sym (lines_at line offers i c.offer-item.result (omega arith) c.offer-item.is))
    (part_behind _ _ _ (flat_map line (take i offers)) _ _ c.loop-offer.invariant c.in_err-write_offer.ensures.err))

pub loop-offer-preserved : goal.loop-offer-preserved
loop-offer-preserved g c =
    line_appended offer_line c.args.offers.now c.loop-offer.offer-index c.offer-item.result _ _ _ (omega arith)
    c.offer-item.is c.loop-offer.invariant c.in_ok-write_offer.ensures.ok
