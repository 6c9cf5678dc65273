-- What a text of SELECT shows, read as the values of a table.
use Rattle.std.specs.Prelude.{◌≡◌, ◌⊎◌, ℕ, Bool, List, None, Ok}
use Rattle.sqlite_value.specs.Order.{Row}
use Rattle.sqlite_schema.specs.declared.schema.Schema.{Schema}
use Rattle.sqlite_resolve.specs.Lowering.{and_then}
use Rattle.sqlite_resolve.specs.Compile.{first, returning}
use Rattle.sqlite.specs.declared.error.Error.{Error}
use Rattle.sqlite.specs.State.{State, Shown, FailsToQuery, IsTooLate}
use Rattle.station_tables_records.specs.Table.{TypedTable, ReadAs, ReadAsNone, IsShortage}

-- the text says no RETURNING, whatever the schema is
abbrev pub IsReading : List ℕ → Type 0
IsReading text = (schema : Schema) (base : ℕ) → and_then (first text) (λ p. returning schema base p.statement) ≡ Ok None

-- It showed rows that read as this list.
pub record Answers {T : Type 0} (t : TypedTable T) (text : List ℕ) (params : Row) (old new : State)
    (list : List T) : Type 0 where
  pub rows : List Row
  pub shown : Shown text params old new rows
  pub read : ReadAs t rows list

-- It showed rows that read as no list whose values all pass the test.
pub record AnswersNone {T : Type 0} (t : TypedTable T) (fits : T → Bool) (text : List ℕ) (params : Row)
    (old new : State) : Type 0 where
  pub rows : List Row
  pub shown : Shown text params old new rows
  pub unread : ReadAsNone t fits rows

-- The reading failed, or there was no room for its list.
abbrev pub FailsToAsk : List ℕ → Row → State → State → Error → Type 0
FailsToAsk text params old new e =
    (FailsToQuery text params old new e ⊎ IsTooLate text params old new e) ⊎ IsShortage e
