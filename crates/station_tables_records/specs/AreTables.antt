-- Each of the tables is one: its keys are in a total order, the schema has it, no foreign key acts, and a row that
-- reads has a rowid.
use Rattle.std.specs.Prelude.{ℕ, refl}
use Rattle.std.proofs.Common.{sym, ap, ◌∙◌}
use Rattle.std.specs.Cmp.{IsTotalOrder}
use Rattle.std.proofs.lemmas.Cmp.{then_total, on_total, nat_cmp_total}
use Rattle.sqlite_value.specs.declared.value.Value.TheVariants.{Int}
use Rattle.sqlite_rules.specs.Edit.{id_in}
use Rattle.channel_plan.specs.declared.plan.PlanRow.{PlanRow}
use Rattle.station_tables_records.specs.declared.aired_rows.AiredLine.{AiredLine}
use Rattle.station_tables_records.specs.declared.aired_rows.BatchRow.{BatchRow}
use Rattle.station_tables_records.specs.declared.day_rows.ItemRow.{ItemRow}
use Rattle.station_tables_records.specs.MadeAirings.{batch_cmp, line_cmp}
use Rattle.station_tables_records.specs.MadeDays.{item_cmp}
use Rattle.station_tables_records.specs.Table.{IsTable}
use Rattle.station_tables_records.specs.BatchRows.{batch_table}
use Rattle.station_tables_records.specs.ChannelRows.{channel_cmp, channel_table}
use Rattle.station_tables_records.specs.ClipRows.{clip_table}
use Rattle.station_tables_records.specs.DayRows.{day_table}
use Rattle.station_tables_records.specs.ItemRows.{item_table}
use Rattle.station_tables_records.specs.LineRows.{line_table}
use Rattle.station_tables_records.specs.OfferRows.{offer_table}
use Rattle.station_tables_records.specs.SpanRows.{span_table}
use Rattle.station_tables_records.specs.Numbered.{numbered_cmp}
use Rattle.station_tables_records.specs.TapeRows.{tape_table}

pub numbered_total : {A : Type 0} (number : A → ℕ) → IsTotalOrder (numbered_cmp number)
numbered_total number = then_total (on_total (λ r. r.0) nat_cmp_total) (on_total (λ r. number r.1) nat_cmp_total)

pub item_total : IsTotalOrder item_cmp
item_total = then_total (on_total (λ (r : ℕ × ItemRow). r.0) nat_cmp_total)
    (then_total (on_total (λ r. r.1.day) nat_cmp_total) (on_total (λ r. r.1.item.n) nat_cmp_total))

batch_total : IsTotalOrder batch_cmp
batch_total = then_total (on_total (λ (r : ℕ × BatchRow). r.0) nat_cmp_total)
    (then_total (on_total (λ r. r.1.day) nat_cmp_total) (on_total (λ r. r.1.number) nat_cmp_total))

line_total : IsTotalOrder line_cmp
line_total = then_total (on_total (λ (r : ℕ × AiredLine). r.0) nat_cmp_total)
    (then_total (on_total (λ r. r.1.day) nat_cmp_total)
    (then_total (on_total (λ r. r.1.batch) nat_cmp_total) (on_total (λ r. r.1.line) nat_cmp_total)))

pub channel_cmp_total : IsTotalOrder channel_cmp
channel_cmp_total = on_total (λ (c : PlanRow). c.ch) nat_cmp_total

pub channel_table_is : IsTable channel_table
channel_table_is = record {
  total = channel_cmp_total;
  there = refl;
  unworked = λ keys tree olds news. refl;
  numbered = λ r is. is.ch ∙ sym (ap (λ v. Int (id_in v)) is.ch);
}

pub tape_table_is : IsTable tape_table
tape_table_is =
    record { total = numbered_total (λ t. t.n); there = refl; unworked = λ _ _ _ _. refl; numbered = λ _ i. i.0 }

pub clip_table_is : IsTable clip_table
clip_table_is =
    record { total = numbered_total (λ k. k.n); there = refl; unworked = λ _ _ _ _. refl; numbered = λ _ i. i.0 }

pub offer_table_is : IsTable offer_table
offer_table_is =
    record { total = numbered_total (λ o. o.n); there = refl; unworked = λ _ _ _ _. refl; numbered = λ _ i. i.0 }

pub span_table_is : IsTable span_table
span_table_is =
    record { total = numbered_total (λ s. s.offer); there = refl; unworked = λ _ _ _ _. refl; numbered = λ _ i. i.0.0 }

pub day_table_is : IsTable day_table
day_table_is =
    record { total = numbered_total (λ d. d.number); there = refl; unworked = λ _ _ _ _. refl; numbered = λ _ i. i.0 }

pub item_table_is : IsTable item_table
item_table_is = record { total = item_total; there = refl; unworked = λ _ _ _ _. refl; numbered = λ _ i. i.0 }

pub batch_table_is : IsTable batch_table
batch_table_is = record { total = batch_total; there = refl; unworked = λ _ _ _ _. refl; numbered = λ _ i. i.0 }

pub line_table_is : IsTable line_table
line_table_is = record { total = line_total; there = refl; unworked = λ _ _ _ _. refl; numbered = λ _ i. i.0.0 }
