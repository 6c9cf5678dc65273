-- What the days table tells of the days that rows make.
use Rattle.std.specs.Prelude.{ℕ, ◌&&◌, ◌==◌, Bool, List, filter, length, map, nat_lt}
use Rattle.sqlite_trees.specs.Tree.{Trees}
use Rattle.station_tables_records.specs.declared.aired_rows.BatchRow.{BatchRow}
use Rattle.station_tables_records.specs.declared.day_rows.DayRow.{DayRow}
use Rattle.station_tables_records.specs.declared.day_rows.ItemRow.{ItemRow}
use Rattle.station_tables_records.specs.MadeDays.{DaySet, is_of_day, state_of}
use Rattle.station_tables_records.specs.MadeAirings.{AiredSet, is_batch_of}
use Rattle.station_tables_records.specs.TablePairs.{aired_rows_in, day_rows_in}
use Rattle.report_texts.specs.declared.counts.DayCounts.{DayCounts}
use Rattle.report_texts.specs.Playlist.{frames_of}

-- of the day of a row: the rows of its items and of its batches are counted
abbrev pub counts_of_rows : DayRow → List (ℕ × ItemRow) → List (ℕ × BatchRow) → DayCounts
counts_of_rows row items batches =
    record {
      number = row.number;
      state = state_of row;
      items = length items;
      frames = frames_of (map (λ r. r.1.item) items);
      batches = length batches;
    }

abbrev pub counts_at : DaySet → AiredSet → ℕ × DayRow → DayCounts
counts_at days aired r =
    counts_of_rows r.1 (filter (is_of_day r.0 r.1.number) days.items)
    (filter (is_batch_of r.0 r.1.number) aired.batches)

-- by the rows that the tables hold
abbrev pub counts_in : Trees → ℕ × DayRow → DayCounts
counts_in trees r = counts_at (day_rows_in trees) (aired_rows_in trees) r

-- of this channel, with a number below this one
abbrev pub is_day_below : ℕ → ℕ → ℕ × DayRow → Bool
is_day_below c n r = r.0 == c && nat_lt r.1.number n

-- their rows in the tables
abbrev pub days_below : ℕ → ℕ → Trees → List (ℕ × DayRow)
days_below c n trees = filter (is_day_below c n) (day_rows_in trees).days
