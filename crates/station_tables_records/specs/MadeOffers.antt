-- The rows of offers and of their windows, each with its channel, and the offers that they make.
use Rattle.std.specs.Prelude.{◌≡◌, ℕ, Bool, false, ◌&&◌, ◌==◌, List, map, find, Option, Some, None}
use Rattle.std.specs.declared.cmp.Ordering.{Ordering}
use Rattle.std.specs.Option.{option_map}
use Rattle.std.specs.Ordering.{nat_cmp, ordering_then}
use Rattle.std.specs.List.{AllByRecursion, list_any}
use Rattle.sqlite_keyed.specs.Lists.{insert_sorted}
use Rattle.vault_core.specs.declared.offer.Offer.{Offer}
use Rattle.vault_core.specs.Window.{Window}
use Rattle.station_tables_records.specs.declared.offer_rows.SpanRow.{SpanRow}

-- by channel, and then by the number of the offer
abbrev pub span_cmp : ℕ × SpanRow → ℕ × SpanRow → Ordering
span_cmp a b = ordering_then (nat_cmp a.0 b.0) (nat_cmp a.1.offer b.1.offer)

-- the rows of both tables: an offer's has no window
pub record OfferSet : Type 0 where
  pub offers : List (ℕ × Offer)
  pub spans : List (ℕ × SpanRow)

-- the window of offer n of channel c
abbrev pub is_span : ℕ → ℕ → ℕ × SpanRow → Bool
is_span c n s = s.0 == c && s.1.offer == n

abbrev pub window_at : ℕ → ℕ → List (ℕ × SpanRow) → Option Window
window_at c n spans = option_map (λ s. s.1.window) (find (is_span c n) spans)

-- an offer with its window
abbrev pub offer_made : List (ℕ × SpanRow) → ℕ × Offer → ℕ × Offer
offer_made spans o = (o.0, record o.1 { window = window_at o.0 o.1.n spans })

-- the offers that the rows make, in the order of the rows of offers
abbrev pub offers_made : OfferSet → List (ℕ × Offer)
offers_made rows = map (offer_made rows.spans) rows.offers

-- the offer of a window is there
abbrev pub has_offer : List (ℕ × Offer) → ℕ × SpanRow → Bool
has_offer offers s = list_any (λ o. o.0 == s.0 && o.1.n == s.1.offer) offers

-- offer n of channel c has no window
abbrev pub LacksSpan : ℕ → ℕ → List (ℕ × SpanRow) → Type 0
LacksSpan c n = AllByRecursion (λ s. is_span c n s ≡ false)

-- the rows of windows with that of offer n of channel c, which has none, where it has one
abbrev pub with_span : ℕ → ℕ → Option Window → List (ℕ × SpanRow) → List (ℕ × SpanRow)
with_span c n None spans = spans
with_span c n (Some w) spans = insert_sorted span_cmp (c, record { offer = n; window = w }) spans

-- an offer as its row has it
abbrev pub without_window : Offer → Offer
without_window o = record o { window = None }
