-- What is shown of a table that is read channel by channel.
use Rattle.std.specs.Prelude.{ℕ, pos, Bool, List, [], ◌∷◌, length, map, filter, min, IsPermutation}
use Rattle.sqlite_value.specs.declared.value.Value.TheVariants.{Int}
use Rattle.sqlite_value.specs.Order.{Row}
use Rattle.sqlite_trees.specs.Tree.{Trees, rowid}
use Rattle.station_tables_records.specs.Plain.{keeps}
use Rattle.station_tables_records.specs.Table.{TypedTable, ShowsTable}
use Rattle.station_tables_records.specs.Values.{of_nat}
use Rattle.station_tables_records.proofs.Texts.{is_first_at}

-- The row's first column is this channel. Of a row that doesn't read, it may be anything else.
abbrev pub is_channel : ℕ → Row → Bool
is_channel c = keeps (of_nat c ∷ []) (is_first_at 1)

-- the rows of this channel
abbrev pub of_channel : ℕ → Trees → Trees
of_channel c trees tree = filter (is_channel c) (trees tree)

-- These rows read as a list where the table holds it of the channel, and only there. They have its rowids.
pub record ShowsChannel {T : Type 0} (t : TypedTable T) (c : ℕ) (rows : List Row) (trees : Trees) : Type 0 where
  pub table : ShowsTable t rows (of_channel c trees)
  pub ids : IsPermutation (map rowid (of_channel c trees t.base.tree)) (map rowid rows)

-- The one row that shows how many rows a table has: no more than an integer of 64 bits can say.
abbrev pub count_row : List Row → List Row
count_row rows = (Int (pos (min (length rows) 9223372036854775807)) ∷ []) ∷ []
