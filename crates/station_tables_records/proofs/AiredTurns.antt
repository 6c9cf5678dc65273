-- What the statements that write a batch make of the rows, one after another: the batch is put in, and then its lines,
-- each in its turn.
use Rattle.std.proofs.Common.{ℕ, ◌+◌, List, [], ◌∷◌}
use Rattle.sqlite_keyed.specs.Lists.{insert_sorted}
use Rattle.asrun_match.specs.declared.aired.AiredRow.{AiredRow}
use Rattle.station_tables_records.specs.declared.aired_rows.AiredLine.{AiredLine}
use Rattle.station_tables_records.specs.MadeAirings.{AiredSet, batch_cmp, line_cmp, row_of_batch, row_of_line}
use Rattle.station_tables_records.specs.MadeAirings.{LacksLine}

-- with these rows more, as lines l, l + 1 and so on of batch k of day n of channel c
abbrev pub with_lines : ℕ → ℕ → ℕ → ℕ → List AiredRow → List (ℕ × AiredLine) → List (ℕ × AiredLine)
with_lines c n k l [] lines = lines
with_lines c n k l (row ∷ rows) lines =
    with_lines c n k (l + 1) rows (insert_sorted line_cmp (row_of_line c n k l row) lines)

-- with batch k of day n of channel c more
abbrev pub add_batch : ℕ → ℕ → ℕ → List AiredRow → AiredSet → AiredSet
add_batch c n k rows set = record {
  batches = insert_sorted batch_cmp (row_of_batch c n k) set.batches;
  lines = with_lines c n k 1 rows set.lines;
}

-- the batch lacks each of these lines l, l + 1 and so on where its turn comes
abbrev pub AreNewLines : ℕ → ℕ → ℕ → ℕ → List AiredRow → List (ℕ × AiredLine) → Type 0
AreNewLines c n k l [] lines = Unit {0}
AreNewLines c n k l (row ∷ rows) lines =
    LacksLine c n k l lines × AreNewLines c n k (l + 1) rows (insert_sorted line_cmp (row_of_line c n k l row) lines)
