-- The tables that are read and changed together: days and their items, batches and their lines, offers and their
-- windows.
use Rattle.std.specs.Prelude.{ℕ, List}
use Rattle.sqlite_trees.specs.Tree.{Trees}
use Rattle.station_tables_records.specs.declared.day_rows.DayRow.{DayRow}
use Rattle.station_tables_records.specs.declared.day_rows.ItemRow.{ItemRow}
use Rattle.station_tables_records.specs.MadeDays.{DaySet}
use Rattle.station_tables_records.specs.declared.aired_rows.BatchRow.{BatchRow}
use Rattle.station_tables_records.specs.declared.aired_rows.AiredLine.{AiredLine}
use Rattle.station_tables_records.specs.MadeAirings.{AiredSet}
use Rattle.vault_core.specs.declared.offer.Offer.{Offer}
use Rattle.station_tables_records.specs.declared.offer_rows.SpanRow.{SpanRow}
use Rattle.station_tables_records.specs.MadeOffers.{OfferSet}
use Rattle.station_tables_records.specs.DayRows.{day_table}
use Rattle.station_tables_records.specs.ItemRows.{item_table}
use Rattle.station_tables_records.specs.BatchRows.{batch_table}
use Rattle.station_tables_records.specs.LineRows.{line_table}
use Rattle.station_tables_records.specs.OfferRows.{offer_table}
use Rattle.station_tables_records.specs.SpanRows.{span_table}
use Rattle.station_tables_records.specs.TwoTables.{TwoTables, rows_of_both}

abbrev pub day_tables : TwoTables (ℕ × DayRow) (ℕ × ItemRow) DaySet
day_tables =
    record { first = day_table; second = item_table; both = λ days items. record { days = days; items = items } }

abbrev pub day_rows_in : Trees → DaySet
day_rows_in = rows_of_both day_tables

-- the rows with other ones of days, or of items

abbrev pub on_days : (List (ℕ × DayRow) → List (ℕ × DayRow)) → DaySet → DaySet
on_days f rows = record rows { days = f rows.days }

abbrev pub on_items : (List (ℕ × ItemRow) → List (ℕ × ItemRow)) → DaySet → DaySet
on_items f rows = record rows { items = f rows.items }

abbrev pub aired_tables : TwoTables (ℕ × BatchRow) (ℕ × AiredLine) AiredSet
aired_tables = record {
  first = batch_table;
  second = line_table;
  both = λ batches lines. record { batches = batches; lines = lines };
}

abbrev pub aired_rows_in : Trees → AiredSet
aired_rows_in = rows_of_both aired_tables

-- the rows with other ones of batches, or of lines

abbrev pub on_batches : (List (ℕ × BatchRow) → List (ℕ × BatchRow)) → AiredSet → AiredSet
on_batches f rows = record rows { batches = f rows.batches }

abbrev pub on_lines : (List (ℕ × AiredLine) → List (ℕ × AiredLine)) → AiredSet → AiredSet
on_lines f rows = record rows { lines = f rows.lines }

abbrev pub offer_tables : TwoTables (ℕ × Offer) (ℕ × SpanRow) OfferSet
offer_tables = record {
  first = offer_table;
  second = span_table;
  both = λ offers spans. record { offers = offers; spans = spans };
}

abbrev pub offer_rows_in : Trees → OfferSet
offer_rows_in = rows_of_both offer_tables

-- the rows with other ones of offers, or of windows

abbrev pub on_offer_rows : (List (ℕ × Offer) → List (ℕ × Offer)) → OfferSet → OfferSet
on_offer_rows f rows = record rows { offers = f rows.offers }

abbrev pub on_spans : (List (ℕ × SpanRow) → List (ℕ × SpanRow)) → OfferSet → OfferSet
on_spans f rows = record rows { spans = f rows.spans }
