-- The table `channel`: a row of it as a channel of the plan. Its key is its rowid, so a row of the table is ch, NULL in
-- the place of the column ch, rate, start and slots. No reading looks at the second place: the open's text shows ch
-- there.
use Rattle.std.specs.Prelude.{◌≡◌, ℕ, Bool, ◌&&◌, ◌==◌, ◌^◌, nat_lt, [], ◌∷◌, unwrap_or}
use Rattle.std.specs.declared.cmp.Ordering.{Ordering}
use Rattle.std.specs.Ordering.{nat_cmp}
use Rattle.sqlite_value.specs.declared.value.Value.TheVariants.{Null, Text as Words}
use Rattle.sqlite_value.specs.Order.{Row, column}
use Rattle.timecode.specs.declared.rates.Rate.TheVariants.{F25}
use Rattle.timecode.specs.Rate.{rate_text, rate_of_text}
use Rattle.channel_plan.specs.declared.plan.PlanRow.{PlanRow}
use Rattle.station_tables_records.specs.Table.{TypedTable}
use Rattle.station_tables_records.specs.Schema.{channel}
use Rattle.station_tables_records.specs.Columns.{table_at}
use Rattle.station_tables_records.specs.Values.{of_nat, nat_in, text_in}

-- some rate, where the text is none
abbrev pub channel_of : Row → PlanRow
channel_of r = record {
  ch = nat_in (column r 0);
  rate = unwrap_or (rate_of_text (text_in (column r 2))) F25;
  start = nat_in (column r 3);
  slots = nat_in (column r 4);
}

-- its columns, as they are given
abbrev pub channel_row : PlanRow → Row
channel_row c = of_nat c.ch ∷ Words (rate_text c.rate) ∷ of_nat c.start ∷ of_nat c.slots ∷ []

-- the row as it lies in the table
abbrev pub stored_channel : PlanRow → Row
stored_channel c = of_nat c.ch ∷ Null ∷ Words (rate_text c.rate) ∷ of_nat c.start ∷ of_nat c.slots ∷ []

-- the column of its key
abbrev pub channel_key : PlanRow → Row
channel_key c = of_nat c.ch ∷ []

-- by number
abbrev pub channel_cmp : PlanRow → PlanRow → Ordering
channel_cmp a b = nat_cmp a.ch b.ch

-- The row's columns are those of the channel that it reads as.
pub record IsChannelRow (r : Row) : Type 0 where
  pub ch : column r 0 ≡ of_nat (channel_of r).ch
  pub rate : column r 2 ≡ Words (rate_text (channel_of r).rate)
  pub start : column r 3 ≡ of_nat (channel_of r).start
  pub slots : column r 4 ≡ of_nat (channel_of r).slots

abbrev pub channel_table : TypedTable PlanRow
channel_table = table_at 1 channel channel_of IsChannelRow channel_cmp

-- of this number
abbrev pub is_channel : ℕ → PlanRow → Bool
is_channel c row = row.ch == c

-- its numbers have 16 bits, and its start 32
abbrev pub channel_fits : PlanRow → Bool
channel_fits c = nat_lt c.ch 65536 && nat_lt c.start (2 ^ 32) && nat_lt c.slots 65536
