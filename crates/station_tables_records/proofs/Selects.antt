-- What a text means.
use Rattle.std.specs.Prelude.{◌≡◌, ◌≤◌, ℕ, List, [], length, true, false, Result, Ok, Err}
use Rattle.sqlite_value.specs.Order.{Row}
use Rattle.sqlite_sql.specs.Query.{Query}
use Rattle.sqlite_schema.specs.declared.schema.Schema.{Schema}
use Rattle.sqlite_schema.specs.declared.schema.Table.{Table}
use Rattle.sqlite_schema.specs.declared.command.Command.{Command}
use Rattle.sqlite_schema.specs.declared.command.Command.TheVariants.{Select, CreateTable}
use Rattle.sqlite_catalog.specs.Change.{created}
use Rattle.sqlite_typing.specs.Types.{accepts_program}
use Rattle.sqlite_resolve.specs.declared.compiled.Compiled.{Compiled}
use Rattle.sqlite_resolve.specs.declared.error.CompileError.{CompileError}
use Rattle.sqlite_resolve.specs.Compile.{table_defined_by}
use Rattle.sqlite.specs.Does.{lacks_sequence}
use Rattle.sqlite.specs.Given.{IsPlain}
use Rattle.sqlite.specs.Listing.{understood, reads_listing}
use Rattle.sqlite.proofs.Callers.{command_of, statement_of}
use Rattle.station_tables_records.specs.Asking.{IsReading}

-- What the text is: this query. Of a text and a schema that are written out, `refl` finds each, under `unfolding
-- understood everything`.
pub record Selects (schema : Schema) (text : List ℕ) (query : Query) : Type 0 where
  pub names : List (List ℕ)
  pub is : command_of (understood schema text) ≡ Select (record { lets = []; body = query }) names
  pub plain : IsPlain (understood schema text)
  pub unlisted : reads_listing schema text ≡ false
  pub reads : IsReading text

-- the text is one statement, with as many parameters as are given
abbrev pub IsWhole : List ℕ → Row → Result Compiled CompileError → Type 0
IsWhole text params (Ok c) = (length text ≤ c.tail) × (length params ≡ length c.names)
IsWhole text params (Err e) = ⊥

-- it takes these parameters, and its terms fit the tables
pub record Fits (schema : Schema) (text : List ℕ) (params : Row) (query : Query) : Type 0 where
  pub whole : IsWhole text params (understood schema text)
  pub typed : accepts_program schema [] query params ≡ true

-- What the text of a statement that writes rows is: this command.
pub record Means (schema : Schema) (text : List ℕ) (command : Command) : Type 0 where
  pub is : command_of (understood schema text) ≡ command
  pub plain : IsPlain (understood schema text)

-- The text makes this table, which has no tree yet, and so the next schema of the schema.
pub record Creates (schema next : Schema) (table : Table) (text : List ℕ) : Type 0 where
  pub is : command_of (understood schema text) ≡ CreateTable
  pub kept : statement_of text (understood schema text) ≡ text
  pub plain : IsPlain (understood schema text)
  pub defines : table_defined_by text ≡ Ok table
  pub uncounted : lacks_sequence (created schema table) ≡ false
  pub makes : created schema table ≡ next
