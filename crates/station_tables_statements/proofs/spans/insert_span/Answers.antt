-- `insert_span`: adds the window of an offer that has none.
use Rattle.std.proofs.Common.{ℕ, subst}
use Rattle.station_tables_records.specs.declared.offer_rows.SpanRow.{SpanRow}
use Rattle.station_tables_records.proofs.InsideLemmas.{Executed, writes_inside, made_inside}
use Rattle.station_tables_records.proofs.Texts.{insert_span_text}
use Rattle.station_tables_records.specs.SpanRows.{span_row}
use Rattle.station_tables_statements.proofs.SpanLemmas.{puts_span}
use Rattle.station_tables_statements.proofs.spans.insert_span.Goals as goal

pub returns : goal.returns
returns g c =
    let row : ℕ × SpanRow = (c.args.channel, c.args.span) in
    let call : Executed g.S.Store c.args.tx.now c.execute.new.self insert_span_text (span_row row) c.execute.result =
    subst (λ params. Executed g.S.Store c.args.tx.now c.execute.new.self insert_span_text params c.execute.result)
    c.span_values.ensures
    (record {
      same_reference = c.execute.ensures.same_reference;
      ended = c.execute.ensures.ended;
      runs =
          c.execute.ensures.runs;
      survives = c.execute.ensures.survives;
    }) in record {
      writes = writes_inside _ _ _ _ _ call;
      makes =
          λ fresh has clean. made_inside _ _ _ _ _ call clean
          (λ early held count ran. puts_span _ _ (has early held).schema (has early held).second row count
          c.keeps_the_form.ensures (fresh early held) ran);
    }
