-- `write_own`: writes a table of the channel, whose row of the plan this is.
use Rattle.std.proofs.Common.{◌≡◌, ◌*◌, take}
use Rattle.std.specs.Io.KnownBytes.{Appends}
use Rattle.report_texts.specs.Output.{AppendsPart}
use Rattle.channel_view_model.specs.declared.view.View.{View}
use Rattle.channel_view_model.specs.TableText.{table_text}
use Rattle.station_tables_statements.proofs.LookLemmas.{looks_then}
use Rattle.station_tables_reading.specs.Lines.{Written, count_of, end_of, joined, lines_of, shelved_of}
use Rattle.station_tables_reading.proofs.PageTextLemmas.{begun, part_of_table, seen_then, shelved_is, table_written}
use Rattle.station_tables_reading.proofs.table_writing.write_own.Goals as goal

pub returns-in_err-shelved-clause-written : goal.returns-in_err-shelved-clause-written
returns-in_err-shelved-clause-written g c centre clean holds there =
    let t = c.args.table in
    let start = g.W.Write.contents c.args.output.now in
    let mid = g.W.Write.contents c.write_pages.new.output in
    begun _ _ _ _ c.from_residual-in_err-shelved.ensures.0
    (seen_then g.S.Store _ _ _ _ _ c.in_ok-count.ensures.looks c.in_err-shelved.ensures.looks c.args.channel
    c.args.plan.now
    (λ v. c.in_ok-count.count ≡ count_of t v)
    (λ v. AppendsPart start mid (joined (take (c.div_ceil-pages.result * 64) (lines_of t v))))
    (λ v. AppendsPart start mid (table_text t v))
    (λ v is. part_of_table t v c.in_ok-count.count c.div_ceil-pages.result c.div_ceil-pages.ensures is start mid)
    (c.in_ok-count.ensures.count c.args.plan.now) c.in_err-shelved.ensures.written centre clean holds there)

pub returns-clause-looks : goal.returns-clause-looks
returns-clause-looks g c =
    looks_then g.S.Store _ _ _ _ _ c.in_ok-count.ensures.looks
    (looks_then g.S.Store _ _ _ _ _ c.in_ok-shelved.ensures.looks c.write_end.ensures.looks)

pub returns-clause-written : goal.returns-clause-written
returns-clause-written g c =
    let s = g.S.Store in
    let t = c.args.table in
    let count = c.in_ok-count.count in
    let pages = c.div_ceil-pages.result in
    let shelved = c.in_ok-shelved.shelved in
    let start = g.W.Write.contents c.args.output.now in
    let mid = g.W.Write.contents c.write_pages.new.output in
    let end = g.W.Write.contents c.write_end.new.output in
    let lines = λ (v : View). Appends start mid (joined (take (pages * 64) (lines_of t v))) in
    let found = λ (v : View). shelved ≡ shelved_of t (take (pages * 64) v.own.tapes) in
    let last =
    λ (v : View). count ≡ count_of t v → shelved ≡ shelved_of t v.own.tapes
    → Written mid end c.write_end.result (end_of t v) in
    seen_then s _ _ _ count _ c.in_ok-count.ensures.looks
    (looks_then s _ _ _ _ _ c.in_ok-shelved.ensures.looks c.write_end.ensures.looks) c.args.channel c.args.plan.now
    (λ v. count ≡ count_of t v) (λ v. found v × lines v × last v)
    (λ v. Written start end c.write_end.result (table_text t v))
    (λ v is said. table_written t v count pages c.div_ceil-pages.ensures is c.write_end.result start mid end said.1
    (said.2 is (shelved_is t v count pages c.div_ceil-pages.ensures is shelved said.0)))
    (c.in_ok-count.ensures.count c.args.plan.now)
    (seen_then s _ _ _ shelved _ c.in_ok-shelved.ensures.looks c.write_end.ensures.looks c.args.channel c.args.plan.now
    (λ v. found v × lines v) last (λ v. found v × lines v × last v) (λ v both end_is. (both.0, both.1, end_is))
    (λ centre clean holds there. (
      c.in_ok-shelved.ensures.shelved centre clean holds there,
      c.in_ok-shelved.ensures.written centre clean holds
          there,
    )) c.write_end.ensures.written)
