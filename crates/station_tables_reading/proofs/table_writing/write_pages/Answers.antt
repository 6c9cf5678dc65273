-- `write_pages`: writes the lines of so many pages, from the first on.
use Rattle.std.proofs.Common.{◌∙◌, arith}
use Rattle.station_tables_statements.proofs.LookLemmas.{looks_on, looks_then}
use Rattle.station_tables_reading.proofs.PageTextLemmas.{begun, whole_part, lines_written, lines_begun, shelved_then}
use Rattle.station_tables_reading.proofs.table_writing.write_pages.Goals as goal

pub returns-in_err-more-clause-written : goal.returns-in_err-more-clause-written
returns-in_err-more-clause-written g c centre clean holds there =
    begun _ _ _ _ c.from_residual.ensures.0
    (lines_begun g.S.Store _ _ _ _ _ c.loop-page.invariant.looks c.in_err-more.ensures.looks c.args.channel
    c.args.plan.now c.args.table c.loop-page.page
    (g.W.Write.contents c.args.output.now) (g.W.Write.contents c.loop-page.output)
    (g.W.Write.contents c.write_page.new.output) c.args.pages (omega arith)
    c.loop-page.invariant.written c.in_err-more.ensures.written centre clean holds there)

pub returns-in_default-clause-written : goal.returns-in_default-clause-written
returns-in_default-clause-written g c =
    lines_begun g.S.Store _ _ _ _ _ c.loop-page.invariant.looks c.in_ok-more.ensures.looks c.args.channel
    c.args.plan.now c.args.table c.loop-page.page
    (g.W.Write.contents c.args.output.now) (g.W.Write.contents c.loop-page.output)
    (g.W.Write.contents c.write_page.new.output) c.args.pages (omega arith)
    c.loop-page.invariant.written
    (λ centre clean holds there. whole_part _ _ _ (c.in_ok-more.ensures.written centre clean holds there))

pub loop-page-preserved : goal.loop-page-preserved
loop-page-preserved g c = record {
  looks =
      looks_on g.S.Store _ _ _ c.in-Some.sum
      (looks_then g.S.Store _ _ _ _ _ c.loop-page.invariant.looks c.in_ok-more.ensures.looks);
  shelved = λ centre clean holds there.
      c.in-Some.ensures.1
      ∙ shelved_then g.S.Store _ _ _ _ _ c.loop-page.invariant.looks c.in_ok-more.ensures.looks c.args.channel
      c.args.plan.now c.args.table c.loop-page.page c.loop-page.shelved c.in_ok-more.more c.loop-page.invariant.shelved
      c.in_ok-more.ensures.shelved centre clean holds there;
  written =
      lines_written g.S.Store _ _ _ _ _ c.loop-page.invariant.looks c.in_ok-more.ensures.looks c.args.channel
      c.args.plan.now c.args.table c.loop-page.page
      (g.W.Write.contents c.args.output.now) (g.W.Write.contents c.loop-page.output)
      (g.W.Write.contents c.write_page.new.output) c.loop-page.invariant.written c.in_ok-more.ensures.written;
}
