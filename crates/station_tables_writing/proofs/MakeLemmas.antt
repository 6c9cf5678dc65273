-- The tables of a new centre, made one after another.
use Rattle.std.proofs.Common.{◌≡◌, ℕ, List, [], ◌∷◌, Ok, refl, sym, ◌∙◌, subst}
use Rattle.sqlite_schema.specs.declared.schema.Schema.{Schema}
use Rattle.sqlite_trees.specs.declared.store.Store.{Ghosts}
use Rattle.sqlite.specs.declared.transaction.Transaction.{Transaction}
use Rattle.sqlite.specs.State.{ExecutesInside}
use Rattle.station_tables_records.specs.Inside.{inside}
use Rattle.station_tables_records.specs.Table.{IsBare, MakesBare}
use Rattle.station_tables_records.proofs.TableLemmas.{creates}
use Rattle.station_tables_records.specs.Schema.{no_schema, schema_with_office, schema_with_channel, schema_with_tape}
use Rattle.station_tables_records.specs.Schema.{schema_with_clip, schema_with_offer, schema_with_day, schema_with_item}
use Rattle.station_tables_records.specs.Schema.{schema_with_batch, first_schema, centre_schema}
use Rattle.station_tables_statements.specs.Rows.{BeginsBare}
use Rattle.station_tables_records.proofs.Texts.{create_office_text, create_channel_text, create_tape_text}
use Rattle.station_tables_records.proofs.Texts.{create_clip_text, create_offer_text, create_day_text, create_item_text}
use Rattle.station_tables_records.proofs.Texts.{create_batch_text, create_aired_text, create_span_text}
use Rattle.station_tables_records.proofs.TextLemmas.{create_office_is, create_channel_is, create_tape_is}
use Rattle.station_tables_records.proofs.TextLemmas.{create_clip_is}
use Rattle.station_tables_records.proofs.TextLemmas.{create_offer_is, create_day_is, create_item_is, create_batch_is}
use Rattle.station_tables_records.proofs.TextLemmas.{create_aired_is, create_span_is}
use Rattle.station_tables_writing.specs.Tables.{RanAll}

-- these texts make the tables after out of those before
abbrev pub MakeEach : {S : Type 0} → Ghosts S → Schema → List (List ℕ) → Schema → Type 0
MakeEach g before [] after = before ≡ after
MakeEach g before (text ∷ texts) after =
    (mid : Schema)
    × ((old new : Transaction _) (count : ℕ) → IsBare before (inside g old).now
    → ExecutesInside 0 text [] (inside g old) (inside g new) (Ok count)
    → MakesBare mid (inside g old) (inside g new)) × MakeEach g mid texts after

made_on : {S : Type 0} (g : Ghosts S) (old mid new : Transaction S) (before after : Schema) (texts : List (List ℕ))
    → MakeEach g before texts after → MakesBare before (inside g old) (inside g mid) → RanAll g texts mid new
    → MakesBare after (inside g old) (inside g new)
made_on g old mid new before after [] each made ran =
    subst (λ tx. MakesBare after (inside g old) (inside g tx)) (sym ran)
    (subst (λ schema. MakesBare schema (inside g old) (inside g mid)) each made)
made_on g old mid new before after (text ∷ texts) each made ran =
    let next = each.1 mid ran.0 ran.1.count made.bare ran.1.ran in
    made_on g old ran.0 new each.0 after texts each.2
    (record {
      bare = next.bare;
      sound = next.sound;
      shown =
          record {
            was_open = made.shown.was_open;
            is_open = next.shown.is_open;
            now_is = refl;
            committed_is =
                next.shown.committed_is ∙ made.shown.committed_is;
            mode = next.shown.mode;
          };
    })
    ran.2

-- those behind the first
abbrev other_texts : List (List ℕ)
other_texts =
    create_channel_text ∷ create_tape_text ∷ create_clip_text ∷ create_offer_text ∷ create_day_text ∷ create_item_text
    ∷ create_batch_text ∷ create_aired_text ∷ create_span_text ∷ []

tables_made : {S : Type 0} (g : Ghosts S) → MakeEach g no_schema (create_office_text ∷ other_texts) centre_schema
tables_made g = (
  schema_with_office,
  (λ old new. creates (inside g old) (inside g new) create_office_is),
  (
    schema_with_channel,
    (λ old new. creates (inside g old) (inside g new) create_channel_is),
    (
      schema_with_tape,
      (λ old new. creates (inside g old) (inside g new) create_tape_is),
      (
        schema_with_clip,
        (λ old new. creates (inside g old) (inside g new) create_clip_is),
        (
          schema_with_offer,
          (λ old new. creates (inside g old) (inside g new) create_offer_is),
          (
            schema_with_day,
            (λ old new. creates (inside g old) (inside g new) create_day_is),
            (
              schema_with_item,
              (λ old new. creates (inside g old) (inside g new) create_item_is),
              (
                schema_with_batch,
                (λ old new. creates (inside g old) (inside g new) create_batch_is),
                (
                  first_schema,
                  (λ old new. creates (inside g old) (inside g new) create_aired_is),
                  (
                    centre_schema,
                    (λ old new. creates (inside g old) (inside g new) create_span_is),
                    refl,
                  ),
                ),
              ),
            ),
          ),
        ),
      ),
    ),
  ),
)

-- the ten tables are made where there is none
pub centre_made : {S : Type 0} (g : Ghosts S) (old new : Transaction S) → BeginsBare no_schema (inside g old)
    → RanAll g (create_office_text ∷ other_texts) old new → MakesBare centre_schema (inside g old) (inside g new)
centre_made g old new bare ran =
    let each = tables_made g in
    made_on g old ran.0 new each.0 centre_schema other_texts each.2
    (each.1 old ran.0 ran.1.count (bare ran.1.was_clean ran.1.ran.1.was_open) ran.1.ran) ran.2
