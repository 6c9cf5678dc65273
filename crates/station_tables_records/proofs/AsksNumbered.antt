-- What the texts mean that ask a table for the numbered rows of a channel.
use Rattle.std.specs.Prelude.{ℕ, List}
use Rattle.sqlite_sql.specs.Term.{Term}
use Rattle.sqlite_schema.specs.declared.schema.Schema.{Schema}
use Rattle.station_tables_records.specs.Plain.{plain_query, first_query}
use Rattle.station_tables_records.proofs.Selects.{Selects}
use Rattle.station_tables_records.proofs.Texts.{is_first_at, are_both_at, are_within_at, by_pair, by_falling_pair}

-- for all of them, for those on a page, for the last one, and for the one with a number
pub record AsksNumbered (schema : Schema) (tree : ℕ) (columns : List Term)
    (all_text page_text last_text one_text : List ℕ) : Type 0 where
  pub all : Selects schema all_text (plain_query tree (is_first_at 1) columns by_pair)
  pub page : Selects schema page_text (plain_query tree (are_within_at 1 2) columns by_pair)
  pub last : Selects schema last_text (first_query tree (is_first_at 1) columns by_falling_pair)
  pub one : Selects schema one_text (plain_query tree (are_both_at 1 2) columns by_pair)
