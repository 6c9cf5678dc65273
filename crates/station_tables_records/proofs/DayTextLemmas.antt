-- What the texts on days and items mean.
use Rattle.std.proofs.Common.{List, [], refl, arith}
use Rattle.sqlite_schema.specs.declared.command.Command.TheVariants.{Insert, Update, Delete}
use Rattle.sqlite_schema.specs.declared.command.Source.TheVariants.{Values}
use Rattle.sqlite_schema.specs.declared.schema.Table.{Table}
use Rattle.sqlite_tied.specs.Compute.{everything}
use Rattle.sqlite.specs.Listing.{understood}
use Rattle.station_tables_records.specs.Plain.{plain_query}
use Rattle.station_tables_records.proofs.Selects.{Selects, Means}
use Rattle.station_tables_records.specs.Schema.{first_and, centre_schema}
use Rattle.station_tables_records.proofs.Opens.{Opens}
use Rattle.station_tables_records.proofs.Texts.{are_both_at, are_within_at}
use Rattle.station_tables_records.proofs.DayTexts.{days_text, days_within_text, items_text, items_within_text}
use Rattle.station_tables_records.proofs.DayTexts.{insert_day_text, set_sealed_text, insert_item_text, delete_item_text}
use Rattle.station_tables_records.proofs.DayTexts.{are_three, new_day, set_day, new_item, found_id, days_query}
use Rattle.station_tables_records.proofs.DayTexts.{items_query}

pub record DayTexts : Type 0 where
  pub days : {more : List Table} → Opens (first_and more) days_text (days_query [])
  pub items : {more : List Table} → Opens (first_and more) items_text (items_query [])
  pub days_within : Selects centre_schema days_within_text (days_query (are_within_at 1 2))
  pub items_within : Selects centre_schema items_within_text (items_query (are_within_at 1 2))
  pub insert_day : Means centre_schema insert_day_text (Insert 5 (Values new_day 4))
  pub set_sealed : Means centre_schema set_sealed_text
      (Update 5 (record { lets = []; body = plain_query 13 (are_both_at 1 2) set_day [] }))
  pub insert_item : Means centre_schema insert_item_text (Insert 6 (Values new_item 10))
  pub delete_item : Means centre_schema delete_item_text
      (Delete 6 (record { lets = []; body = plain_query 15 are_three found_id [] }))

pub day_texts : DayTexts
unfolding understood everything
day_texts = record {
  days =
      record {
        selects =
            record { names = _; is = refl; plain = (refl, refl); unlisted = refl; reads = λ schema base. refl };
        fits =
            record { whole = (omega arith, refl); typed = refl };
      };
  items =
      record {
        selects =
            record { names = _; is = refl; plain = (refl, refl); unlisted = refl; reads = λ schema base. refl };
        fits =
            record { whole = (omega arith, refl); typed = refl };
      };
  days_within = record { names = _; is = refl; plain = (refl, refl); unlisted = refl; reads = λ schema base. refl };
  items_within = record { names = _; is = refl; plain = (refl, refl); unlisted = refl; reads = λ schema base. refl };
  insert_day = record { is = refl; plain = (refl, refl) };
  set_sealed = record { is = refl; plain = (refl, refl) };
  insert_item = record { is = refl; plain = (refl, refl) };
  delete_item = record { is = refl; plain = (refl, refl) };
}
