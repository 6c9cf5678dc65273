-- Rows of `channel` and the channels that they read as.
use Rattle.std.proofs.Common.{◌≡◌, ℕ, pos, [], ◌∷◌, Some, refl, sym, ap, ◌∙◌, unwrap_or}
use Rattle.sqlite_value.specs.declared.value.Value.TheVariants.{Text as Words}
use Rattle.sqlite_value.specs.Order.{Row, column}
use Rattle.sqlite_rules.specs.Cast.{cast_row}
use Rattle.station_tables_records.specs.Plain.{keeps}
use Rattle.station_tables_records.proofs.StatementLemmas.{cast_null, cast_int}
use Rattle.timecode.specs.declared.rates.Rate.{Rate}
use Rattle.timecode.specs.declared.rates.Rate.TheVariants.{F24, F25, F30, Df30}
use Rattle.timecode.specs.Rate.{rate_text, rate_of_text}
use Rattle.channel_plan.specs.declared.plan.PlanRow.{PlanRow}
use Rattle.station_tables_records.specs.Schema.{channel}
use Rattle.station_tables_records.proofs.SelectLemmas.{ShowsColumns}
use Rattle.station_tables_records.specs.Values.{of_nat}
use Rattle.station_tables_records.proofs.Texts.{is_first_at, by_id, channel_columns}
use Rattle.station_tables_records.specs.ChannelRows.{channel_of, channel_row, stored_channel, channel_key, IsChannelRow}
use Rattle.station_tables_records.specs.ChannelRows.{channel_table, is_channel}
use Rattle.station_tables_records.proofs.ValueLemmas.{then-Equal, nats_cmp, equals}
pub use Rattle.station_tables_records.specs.AreTables.{channel_cmp_total, channel_table_is}

-- a rate's text names it
pub rate_again : (rate : Rate) → rate_of_text (rate_text rate) ≡ Some rate
rate_again F24 = refl
rate_again F25 = refl
rate_again F30 = refl
rate_again Df30 = refl

pub rate_back : (rate : Rate) → unwrap_or (rate_of_text (rate_text rate)) F25 ≡ rate
rate_back rate = ap (λ o. unwrap_or o F25) (rate_again rate)

-- a row that was put reads as its channel
pub channel_again : (c : PlanRow) → channel_of (stored_channel c) ≡ c
channel_again c i = record { ch = c.ch; rate = rate_back c.rate i; start = c.start; slots = c.slots }

pub is_channel_row : (c : PlanRow) → IsChannelRow (stored_channel c)
is_channel_row c =
    record { ch = refl; rate = ap (λ r. Words (rate_text r)) (sym (rate_back c.rate)); start = refl; slots = refl }

-- what a text shows of it
pub channel_columns_are : ShowsColumns channel_table channel_columns by_id
channel_columns_are = record {
  still = λ params r is. record { ch = is.ch; rate = is.rate; start = is.start; slots = is.slots };
  back = λ params r is. record { ch = is.ch; rate = is.rate; start = is.start; slots = is.slots };
  same = λ params r. refl;
  ids = λ params r. refl;
  key = channel_key;
  shown = λ id c. of_nat c.ch ∷ channel_row c;
  again = λ id r is. channel_again (channel_of r);
  shows = λ terms params r is i. (is.ch i ∷ [], is.ch i ∷ is.ch i ∷ is.rate i ∷ is.start i ∷ is.slots i ∷ []);
  orders = λ terms i j a b. then-Equal _ ∙ nats_cmp a.ch b.ch;
}

-- WHERE ch = ?1
pub channel_is_of : (c : ℕ) (r : Row) → IsChannelRow r
    → keeps (of_nat c ∷ []) (is_first_at 0) r ≡ is_channel c (channel_of r)
channel_is_of c r is = equals (column r 0) (channel_of r).ch c is.ch

-- the row that INSERT puts is the one that it was given
pub cast_new_channel : (c : PlanRow) → cast_row channel (stored_channel c) ≡ stored_channel c
cast_new_channel c i =
    cast_int (pos c.ch) i ∷ cast_null i ∷ Words (rate_text c.rate) ∷ cast_int (pos c.start) i ∷ cast_int (pos c.slots) i
    ∷ []
