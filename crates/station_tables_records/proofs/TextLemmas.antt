-- What the texts mean.
use Rattle.std.proofs.Common.{◌≡◌, List, [], refl, arith}
use Rattle.sqlite_schema.specs.declared.command.Command.TheVariants.{Insert, Update}
use Rattle.sqlite_schema.specs.declared.command.Source.TheVariants.{Values}
use Rattle.sqlite_catalog.specs.Change.{next_tree}
use Rattle.sqlite_schema.specs.declared.schema.Table.{Table}
use Rattle.sqlite_tied.specs.Compute.{everything}
use Rattle.sqlite.specs.Listing.{understood}
use Rattle.station_tables_records.specs.Schema.{first_and, office, channel, tape, clip, offer, day, item, batch, aired}
use Rattle.station_tables_records.specs.Schema.{span, unplaced, no_schema, schema_with_office, schema_with_channel}
use Rattle.station_tables_records.specs.Schema.{schema_with_tape, schema_with_clip, schema_with_offer, schema_with_day}
use Rattle.station_tables_records.specs.Schema.{schema_with_item, schema_with_batch, first_schema, centre_schema}
use Rattle.station_tables_records.specs.Plain.{plain_query}
use Rattle.station_tables_records.proofs.Selects.{Selects, Means, Creates}
use Rattle.station_tables_records.proofs.Opens.{Opens}
use Rattle.station_tables_records.proofs.Texts.{create_office_text, create_channel_text, create_tape_text}
use Rattle.station_tables_records.proofs.Texts.{create_clip_text, create_offer_text, create_day_text, create_item_text}
use Rattle.station_tables_records.proofs.Texts.{create_batch_text, create_aired_text, create_span_text}
use Rattle.station_tables_records.proofs.Texts.{insert_office_text, new_office, insert_channel_text, new_channel}
use Rattle.station_tables_records.proofs.Texts.{insert_tape_text, new_tape, change_tape_text, changed_tape, office_text}
use Rattle.station_tables_records.proofs.Texts.{office_query, channels_text, channel_text, channels_query, tapes_text}
use Rattle.station_tables_records.proofs.Texts.{tapes_of_text, tapes_query, is_first_at, tape_numbered_text}
use Rattle.station_tables_records.proofs.Texts.{tape_with_text, tape_in_text, last_tape_text, are_both_at}
use Rattle.station_tables_records.proofs.Texts.{tape_page_text}
use Rattle.station_tables_records.proofs.Texts.{clip_page_text, clips_text, clips_of_text, clip_numbered_text}
use Rattle.station_tables_records.proofs.Texts.{clip_with_text, last_clip_text, clips_query, insert_clip_text, new_clip}
use Rattle.station_tables_records.proofs.Texts.{retire_clip_text, retired_clip, set_version_text, risen_office}
use Rattle.station_tables_records.proofs.Texts.{tape_columns, clip_columns}
use Rattle.station_tables_records.proofs.AsksNumbered.{AsksNumbered}

-- ---- the tables

pub create_office_is : Creates no_schema schema_with_office (unplaced office) create_office_text
unfolding understood everything
create_office_is =
    record { is = refl; kept = refl; plain = (refl, refl); defines = refl; uncounted = refl; makes = refl }

pub create_channel_is : Creates schema_with_office schema_with_channel (unplaced channel) create_channel_text
unfolding understood everything
create_channel_is =
    record { is = refl; kept = refl; plain = (refl, refl); defines = refl; uncounted = refl; makes = refl }

pub create_tape_is : Creates schema_with_channel schema_with_tape (unplaced tape) create_tape_text
unfolding understood everything
create_tape_is = record { is = refl; kept = refl; plain = (refl, refl); defines = refl; uncounted = refl; makes = refl }

pub create_clip_is : Creates schema_with_tape schema_with_clip (unplaced clip) create_clip_text
unfolding understood everything
create_clip_is = record { is = refl; kept = refl; plain = (refl, refl); defines = refl; uncounted = refl; makes = refl }

pub create_offer_is : Creates schema_with_clip schema_with_offer (unplaced offer) create_offer_text
unfolding understood everything
create_offer_is =
    record { is = refl; kept = refl; plain = (refl, refl); defines = refl; uncounted = refl; makes = refl }

pub create_day_is : Creates schema_with_offer schema_with_day (unplaced day) create_day_text
unfolding understood everything
create_day_is = record { is = refl; kept = refl; plain = (refl, refl); defines = refl; uncounted = refl; makes = refl }

pub create_item_is : Creates schema_with_day schema_with_item (unplaced item) create_item_text
unfolding understood everything
create_item_is = record { is = refl; kept = refl; plain = (refl, refl); defines = refl; uncounted = refl; makes = refl }

pub create_batch_is : Creates schema_with_item schema_with_batch (unplaced batch) create_batch_text
unfolding understood everything
create_batch_is =
    record { is = refl; kept = refl; plain = (refl, refl); defines = refl; uncounted = refl; makes = refl }

pub create_aired_is : Creates schema_with_batch first_schema (unplaced aired) create_aired_text
unfolding understood everything
create_aired_is =
    record { is = refl; kept = refl; plain = (refl, refl); defines = refl; uncounted = refl; makes = refl }

pub create_span_is : Creates first_schema centre_schema (unplaced span) create_span_text
unfolding understood everything
create_span_is = record { is = refl; kept = refl; plain = (refl, refl); defines = refl; uncounted = refl; makes = refl }

pub tree_of_span : next_tree first_schema ≡ span.tree
tree_of_span = refl

-- ---- what is asked of them and written

pub record OfficeTexts : Type 0 where
  pub whole : {more : List Table} → Opens (first_and more) office_text office_query
  pub insert : Means centre_schema insert_office_text (Insert 0 (Values new_office 3))
  pub set_version : Means centre_schema set_version_text
      (Update 0 (record { lets = []; body = plain_query 0 [] risen_office [] }))

pub office_texts : OfficeTexts
unfolding understood everything
office_texts = record {
  whole =
      record {
        selects =
            record { names = _; is = refl; plain = (refl, refl); unlisted = refl; reads = λ schema base. refl };
        fits =
            record { whole = (omega arith, refl); typed = refl };
      };
  insert = record { is = refl; plain = (refl, refl) };
  set_version = record { is = refl; plain = (refl, refl) };
}

pub record ChannelTexts : Type 0 where
  pub whole : {more : List Table} → Opens (first_and more) channels_text (channels_query [])
  pub one : Selects centre_schema channel_text (channels_query (is_first_at 0))
  pub insert : Means centre_schema insert_channel_text (Insert 1 (Values new_channel 5))

pub channel_texts : ChannelTexts
unfolding understood everything
channel_texts = record {
  whole =
      record {
        selects =
            record { names = _; is = refl; plain = (refl, refl); unlisted = refl; reads = λ schema base. refl };
        fits =
            record { whole = (omega arith, refl); typed = refl };
      };
  one = record { names = _; is = refl; plain = (refl, refl); unlisted = refl; reads = λ schema base. refl };
  insert = record { is = refl; plain = (refl, refl) };
}

pub record TapeTexts : Type 0 where
  pub whole : {more : List Table} → Opens (first_and more) tapes_text (tapes_query [])
  pub asks : AsksNumbered centre_schema 2 tape_columns tapes_of_text tape_page_text last_tape_text tape_numbered_text
  pub with_barcode : Selects centre_schema tape_with_text (tapes_query (are_both_at 1 3))
  pub in_slot : Selects centre_schema tape_in_text (tapes_query (are_both_at 1 4))
  pub insert : Means centre_schema insert_tape_text (Insert 2 (Values new_tape 5))
  pub change : Means centre_schema change_tape_text
      (Update 2 (record { lets = []; body = plain_query 2 (are_both_at 1 2) changed_tape [] }))

pub tape_texts : TapeTexts
unfolding understood everything
tape_texts = record {
  whole =
      record {
        selects =
            record { names = _; is = refl; plain = (refl, refl); unlisted = refl; reads = λ schema base. refl };
        fits =
            record { whole = (omega arith, refl); typed = refl };
      };
  asks = record {
    all = record { names = _; is = refl; plain = (refl, refl); unlisted = refl; reads = λ schema base. refl };
    page = record { names = _; is = refl; plain = (refl, refl); unlisted = refl; reads = λ schema base. refl };
    last = record { names = _; is = refl; plain = (refl, refl); unlisted = refl; reads = λ schema base. refl };
    one = record { names = _; is = refl; plain = (refl, refl); unlisted = refl; reads = λ schema base. refl };
  };
  with_barcode = record { names = _; is = refl; plain = (refl, refl); unlisted = refl; reads = λ schema base. refl };
  in_slot = record { names = _; is = refl; plain = (refl, refl); unlisted = refl; reads = λ schema base. refl };
  insert = record { is = refl; plain = (refl, refl) };
  change = record { is = refl; plain = (refl, refl) };
}

pub record ClipTexts : Type 0 where
  pub whole : {more : List Table} → Opens (first_and more) clips_text (clips_query [])
  pub asks : AsksNumbered centre_schema 6 clip_columns clips_of_text clip_page_text last_clip_text clip_numbered_text
  pub with_umid : Selects centre_schema clip_with_text (clips_query (are_both_at 1 5))
  pub insert : Means centre_schema insert_clip_text (Insert 3 (Values new_clip 9))
  pub retire : Means centre_schema retire_clip_text
      (Update 3 (record { lets = []; body = plain_query 6 (are_both_at 1 2) retired_clip [] }))

pub clip_texts : ClipTexts
unfolding understood everything
clip_texts = record {
  whole =
      record {
        selects =
            record { names = _; is = refl; plain = (refl, refl); unlisted = refl; reads = λ schema base. refl };
        fits =
            record { whole = (omega arith, refl); typed = refl };
      };
  asks = record {
    all = record { names = _; is = refl; plain = (refl, refl); unlisted = refl; reads = λ schema base. refl };
    page = record { names = _; is = refl; plain = (refl, refl); unlisted = refl; reads = λ schema base. refl };
    last = record { names = _; is = refl; plain = (refl, refl); unlisted = refl; reads = λ schema base. refl };
    one = record { names = _; is = refl; plain = (refl, refl); unlisted = refl; reads = λ schema base. refl };
  };
  with_umid = record { names = _; is = refl; plain = (refl, refl); unlisted = refl; reads = λ schema base. refl };
  insert = record { is = refl; plain = (refl, refl) };
  retire = record { is = refl; plain = (refl, refl) };
}
