-- `window_among`: the window of this channel's offer of this number.
use Rattle.std.proofs.Common.{◌≡◌, true, false, sym, ap, ◌∙◌, is_lt, rules, ℕ}
use Rattle.std.specs.Prelude.{slice_get, []}
use Rattle.std.specs.List.{cons_option}
use Rattle.station_tables_records.specs.MadeOffers.{window_at}
use Rattle.std.specs.List.Sorted.{IsPartitionPoint}
use Rattle.std.proofs.lemmas.List.Sorted.{IsPartitionPoint-from_clause}
use Rattle.station_tables_records.specs.declared.offer_rows.SpanRow.{SpanRow}
use Rattle.station_tables_records.proofs.OfferBisectLemmas.{beside_span, parted_spans, found_span}
use Rattle.station_tables_records.proofs.offers.window_among.Goals as goal

pub returns : goal.returns
returns c =
    let spans = c.args.spans.now in
    let ch = c.args.channel in
    let n = c.args.number in
    let cut : IsPartitionPoint (λ (s : ℕ × SpanRow). is_lt (beside_span ch n s) ≡ true)
    (λ (s : ℕ × SpanRow). is_lt (beside_span ch n s) ≡ false) spans c.partition_point-place.result =
    IsPartitionPoint-from_clause (λ (s : ℕ × SpanRow). is_lt (beside_span ch n s)) spans c.partition_point-place.result
    c.partition_point-place.ensures.partitioned (parted_spans ch n spans c.requires) (λ a r q k. search rules) in
    c.if_span.ensures
    ∙ ap (λ o. window_at ch n (cons_option o []))
    (c.first.ensures.value ∙ ap (λ l. slice_get l 0) c.split_at.ensures.back)
    ∙ sym (found_span ch n spans c.partition_point-place.result c.partition_point-place.ensures.bound cut c.requires)
