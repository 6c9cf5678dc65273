-- The columns of a row.
use Rattle.std.specs.Prelude.{◌≡◌, ℕ, suc, [], ◌∷◌}
use Rattle.std.specs.declared.cmp.Ordering.{Ordering}
use Rattle.sqlite_value.specs.declared.value.Value.TheVariants.{Int}
use Rattle.sqlite_value.specs.Order.{Row, column}
use Rattle.sqlite_rules.specs.Edit.{id_in}
use Rattle.sqlite_schema.specs.declared.schema.Table.{Table}
use Rattle.station_tables_records.specs.Table.{TypedTable}
use Rattle.station_tables_records.specs.Schema.{centre_schema}

-- These values stand in a row side by side, from column n on.
abbrev pub HasValues : ℕ → Row → Row → Type 0
HasValues n r [] = Unit {0}
HasValues n r (v ∷ vs) = (column r n ≡ v) × HasValues (suc n) r vs

-- Its rowid is a number, and these are its columns behind that.
abbrev pub HasColumns : Row → Row → Type 0
HasColumns r columns = HasValues 0 r (Int (id_in (column r 0)) ∷ columns)

-- a table of a centre, by its place there
abbrev pub table_at : {A : Type 0} → ℕ → Table → (Row → A) → (Row → Type 0) → (A → A → Ordering) → TypedTable A
table_at place base of IsRow cmp =
    record { schema = centre_schema; place = place; base = base; of = of; IsRow = IsRow; cmp = cmp }

-- the same of a table whose rows have the columns of what they read as, behind a rowid that is a number
abbrev pub table_of : {A : Type 0} → ℕ → Table → (Row → A) → (A → Row) → (A → A → Ordering) → TypedTable A
table_of place base of row cmp = table_at place base of (λ r. HasColumns r (row (of r))) cmp
