-- `window_of`: the window of an offer, which stands beside its channel, if it has one.
use Rattle.std.proofs.Common.{[], ◌∷◌, ℕ, sym, ap, ◌∙◌}
use Rattle.std.specs.Prelude.{slice_get}
use Rattle.std.specs.Option.{option_map}
use Rattle.station_tables_records.specs.TablePairs.{offer_rows_in}
use Rattle.station_tables_records.specs.Values.{of_nat}
use Rattle.station_tables_records.specs.declared.offer_rows.SpanRow.{SpanRow}
use Rattle.station_tables_records.specs.MadeOffers.{is_span}
use Rattle.station_tables_records.specs.Inside.{inside}
use Rattle.station_tables_statements.proofs.AskedLemmas.{found_part}
use Rattle.station_tables_statements.proofs.SpanLemmas.{shows_span_of}
use Rattle.station_tables_records.proofs.SpanTextLemmas.{span_texts}
use Rattle.station_tables_statements.proofs.ViewLemmas.{first_found}
use Rattle.station_tables_statements.proofs.spans.window_of.Goals as goal

pub find_rows-requires : goal.find_rows-requires
find_rows-requires g c = record { reading = span_texts.one.reads }

pub returns-clause-window : goal.returns-clause-window
returns-clause-window g c centre clean =
    let its = is_span c.args.offer.now.0 c.args.offer.now.1.n in
    let asked = c.of_number.ensures ∙ ap (λ n. of_nat c.args.offer.now.0 ∷ of_nat n ∷ []) c.from.ensures in
    let found = c.in_ok-spans.ensures in
    let list =
    found_part g.S.Store _ _ found.reads clean (found.rows clean) asked its
    (λ early held. let is = centre early held in
    shows_span_of _ _ is.schema is.spans c.args.offer.now.0 c.args.offer.now.1.n) in
    c.first_window.ensures
    ∙ ap (λ l. option_map (λ (s : ℕ × SpanRow). s.1.window) (slice_get l 0)) (c.deref.ensures.value ∙ list)
    ∙ ap (option_map (λ (s : ℕ × SpanRow). s.1.window))
    (sym (first_found its (offer_rows_in (inside g.S.Store c.args.tx.now).now.trees).spans))
