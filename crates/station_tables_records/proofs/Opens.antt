-- What a text of an open means.
use Rattle.std.specs.Prelude.{ℕ, List, []}
use Rattle.sqlite_sql.specs.Query.{Query}
use Rattle.sqlite_schema.specs.declared.schema.Schema.{Schema}
use Rattle.station_tables_records.proofs.Selects.{Selects, Fits}

-- The text is this query, and one statement without parameters, whose terms fit the tables.
pub record Opens (schema : Schema) (text : List ℕ) (query : Query) : Type 0 where
  pub selects : Selects schema text query
  pub fits : Fits schema text [] query
