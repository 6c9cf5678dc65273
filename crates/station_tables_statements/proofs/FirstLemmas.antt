-- What the open's texts show of a table, over the tables of a centre of either version.
use Rattle.std.proofs.Common.{◌≡◌, ◌⊎◌, ℕ, ℤ, List, [], ◌∷◌, Some, inl, inr, IsTrue, refl}
use Rattle.std.specs.Prelude.{◌↔◌, slice_get}
use Rattle.sqlite_value.specs.declared.keys.Key.{Key}
use Rattle.sqlite_value.specs.Order.{Row}
use Rattle.sqlite_sql.specs.Term.{Term}
use Rattle.sqlite_schema.specs.declared.schema.Keys.{Keys}
use Rattle.sqlite_schema.specs.declared.schema.Table.{Table}
use Rattle.sqlite_schema.specs.declared.schema.Schema.{Schema}
use Rattle.sqlite_rules.specs.Action.{works}
use Rattle.sqlite.specs.declared.error.Error.{Error}
use Rattle.sqlite.specs.State.{State, Shown, FailsToQuery, IsTooLate}
use Rattle.station_tables_records.specs.Plain.{plain_query}
use Rattle.station_tables_records.specs.Asking.{IsReading}
use Rattle.station_tables_records.specs.Table.{TypedTable, IsTable, IsShortage, ShowsTable, plain_table}
use Rattle.station_tables_records.proofs.FailLemmas.{fails_either}
use Rattle.station_tables_records.proofs.Selects.{Selects}
use Rattle.station_tables_records.proofs.SelectLemmas.{ShowsColumns, shows_table}
use Rattle.station_tables_records.proofs.TableLemmas.{shows_all}
use Rattle.station_tables_records.specs.Schema.{span, first_and, first_schema, centre_schema}
use Rattle.station_tables_records.proofs.Texts.{office_text, office_query, office_columns, by_id, channels_text}
use Rattle.station_tables_records.proofs.Texts.{tapes_text, clips_text, offers_text}
use Rattle.station_tables_records.proofs.DayTexts.{days_text, items_text}
use Rattle.station_tables_records.proofs.AiredTexts.{batches_text, lines_text}
use Rattle.station_tables_records.proofs.TextLemmas.{office_texts, channel_texts, tape_texts, clip_texts}
use Rattle.station_tables_records.proofs.Opens.{Opens}
use Rattle.station_tables_records.proofs.OfferTextLemmas.{offer_texts}
use Rattle.station_tables_records.proofs.DayTextLemmas.{day_texts}
use Rattle.station_tables_records.proofs.AiredTextLemmas.{aired_texts}
use Rattle.station_tables_records.specs.OfficeRow.{HasVersion, office_table}
use Rattle.station_tables_records.proofs.OfficeRowLemmas.{office_table_is}
use Rattle.station_tables_records.specs.ChannelRows.{channel_table}
use Rattle.station_tables_records.proofs.ChannelRowLemmas.{channel_table_is, channel_columns_are}
use Rattle.station_tables_records.specs.TapeRows.{tape_table}
use Rattle.station_tables_records.proofs.TapeRowLemmas.{tape_table_is, tape_rows}
use Rattle.station_tables_records.specs.ClipRows.{clip_table}
use Rattle.station_tables_records.proofs.ClipRowLemmas.{clip_table_is, clip_rows}
use Rattle.station_tables_records.specs.OfferRows.{offer_table}
use Rattle.station_tables_records.proofs.OfferRowLemmas.{offer_table_is, offer_rows}
use Rattle.station_tables_records.specs.DayRows.{day_table}
use Rattle.station_tables_records.proofs.DayRowLemmas.{day_table_is, day_rows}
use Rattle.station_tables_records.specs.ItemRows.{item_table}
use Rattle.station_tables_records.proofs.ItemRowLemmas.{item_table_is, item_columns_are}
use Rattle.station_tables_records.specs.BatchRows.{batch_table}
use Rattle.station_tables_records.proofs.BatchRowLemmas.{batch_table_is, batch_columns_are}
use Rattle.station_tables_records.specs.LineRows.{line_table}
use Rattle.station_tables_records.proofs.LineRowLemmas.{line_table_is, line_columns_are}
use Rattle.station_tables_statements.proofs.StatementLemmas.{version_moved}

-- The schema of a centre of either version: the nine tables, and more behind them. None refers to another.
record IsKnown (schema : Schema) : Type 0 where
  pub more : List Table
  pub is : schema ≡ first_and more
  pub unworked : (keys : Keys) (tree : ℕ) (olds news : List Row) → works (first_and more) keys 0 tree olds news ≡ []

known : (schema : Schema) → (schema ≡ centre_schema) ⊎ (schema ≡ first_schema) → IsKnown schema
known schema (inl is) = record { more = span ∷ []; is = is; unworked = λ keys tree olds news. refl }
known schema (inr is) = record { more = []; is = is; unworked = λ keys tree olds news. refl }

-- the table in another schema
abbrev over : {T : Type 0} → Schema → TypedTable T → TypedTable T
over schema t = record t { schema = schema }

module _ (old new : State) (either : (old.now.schema ≡ centre_schema) ⊎ (old.now.schema ≡ first_schema))
    (rows : List Row) where
  abbrev k : IsKnown old.now.schema
  k = known old.now.schema either

  is_there : {T : Type 0} (t : TypedTable T) → IsTable t
      → slice_get (first_and k.more).tables t.place ≡ Some (plain_table t.base) → IsTable (over (first_and k.more) t)
  is_there t law there = record { total = law.total; there = there; unworked = k.unworked; numbered = law.numbered }

  shows_known : {T : Type 0} (t : TypedTable T) → IsTable t
      → slice_get (first_and k.more).tables t.place ≡ Some (plain_table t.base)
      → {project : List Term} {order : List (Term × Key)} → ShowsColumns t project order
      → {text : List ℕ} → Selects (first_and k.more) text (plain_query t.base.tree [] project order)
      → Shown text [] old new rows → ShowsTable t rows old.now.trees
  shows_known t law there {project} {order} c selects shown list =
      let columns : ShowsColumns (over (first_and k.more) t) project order =
      record {
        still = c.still;
        back = c.back;
        same = c.same;
        ids = c.ids;
        key = c.key;
        shown = c.shown;
        again =
            c.again;
        shows = c.shows;
        orders = c.orders;
      } in
      let shows =
      shows_table (over (first_and k.more) t) (is_there t law there) columns old new k.is [] selects rows shown list
      in (
        λ read. let held = shows.0 (record { typed = read.typed; are = read.are; rise = read.rise }) in
            record { typed = held.typed; are = held.are },
        λ held. let read = shows.1 (record { typed = held.typed; are = held.are }) in
            record { typed = read.typed; are = read.are; rise = read.rise },
      )

  pub known_version : Shown office_text [] old new rows → (version : ℤ)
      → HasVersion version rows ↔ HasVersion version (old.now.trees 0)
  known_version shown =
      let selects : Selects (first_and k.more) office_text office_query = office_texts.whole.selects in
      version_moved (old.now.trees 0) rows
      (shows_all (over (first_and k.more) office_table) (is_there office_table office_table_is refl) old new k.is
      office_text [] selects.plain office_columns by_id _ selects.is selects.unlisted rows shown)

-- What the text of an open says of a table, on tables of either version.
pub record ShowsAll {T : Type 0} (t : TypedTable T) (text : List ℕ) : Type 1 where
  pub reads : IsReading text
  pub shows : (old new : State) → (old.now.schema ≡ centre_schema) ⊎ (old.now.schema ≡ first_schema) → (rows : List Row)
      → Shown text [] old new rows → ShowsTable t rows old.now.trees
  pub fails : (old new : State)
      → (IsTrue old.is_open → (old.now.schema ≡ centre_schema) ⊎ (old.now.schema ≡ first_schema)) → (e : Error)
      → FailsToQuery text [] old new e ⊎ IsTooLate text [] old new e → IsShortage e

all_of : {T : Type 0} (t : TypedTable T) → IsTable t
    → ((more : List Table) → slice_get (first_and more).tables t.place ≡ Some (plain_table t.base))
    → {project : List Term} {order : List (Term × Key)} → ShowsColumns t project order
    → {text : List ℕ} → ((more : List Table) → Opens (first_and more) text (plain_query t.base.tree [] project order))
    → ShowsAll t text
all_of t law there {project} {order} columns {text} opens = record {
  reads = (opens []).selects.reads;
  shows =
      λ old new either rows. let more = (known old.now.schema either).more in
      shows_known old new either rows t law (there more) columns (opens more).selects;
  fails =
      λ old new. fails_either old new centre_schema first_schema text [] t.base.tree [] project order
      (opens (span ∷ [])).selects (opens (span ∷ [])).fits (opens []).selects (opens []).fits;
}

pub all_channels : ShowsAll channel_table channels_text
all_channels = all_of channel_table channel_table_is (λ more. refl) channel_columns_are (λ more. channel_texts.whole)

pub all_tapes : ShowsAll tape_table tapes_text
all_tapes = all_of tape_table tape_table_is (λ more. refl) tape_rows.shows (λ more. tape_texts.whole)

pub all_clips : ShowsAll clip_table clips_text
all_clips = all_of clip_table clip_table_is (λ more. refl) clip_rows.shows (λ more. clip_texts.whole)

pub all_offers : ShowsAll offer_table offers_text
all_offers = all_of offer_table offer_table_is (λ more. refl) offer_rows.shows (λ more. offer_texts.whole)

pub all_days : ShowsAll day_table days_text
all_days = all_of day_table day_table_is (λ more. refl) day_rows.shows (λ more. day_texts.days)

pub all_items : ShowsAll item_table items_text
all_items = all_of item_table item_table_is (λ more. refl) item_columns_are (λ more. day_texts.items)

pub all_batches : ShowsAll batch_table batches_text
all_batches = all_of batch_table batch_table_is (λ more. refl) batch_columns_are (λ more. aired_texts.batches)

pub all_lines : ShowsAll line_table lines_text
all_lines = all_of line_table line_table_is (λ more. refl) line_columns_are (λ more. aired_texts.lines)
