-- What the texts on offers mean.
use Rattle.std.proofs.Common.{List, [], refl, arith}
use Rattle.sqlite_schema.specs.declared.command.Command.TheVariants.{Insert, Update}
use Rattle.sqlite_schema.specs.declared.command.Source.TheVariants.{Values}
use Rattle.sqlite_schema.specs.declared.schema.Table.{Table}
use Rattle.sqlite_tied.specs.Compute.{everything}
use Rattle.sqlite.specs.Listing.{understood}
use Rattle.station_tables_records.specs.Plain.{plain_query}
use Rattle.station_tables_records.proofs.Selects.{Selects, Means}
use Rattle.station_tables_records.specs.Schema.{first_and, centre_schema}
use Rattle.station_tables_records.proofs.Opens.{Opens}
use Rattle.station_tables_records.proofs.Texts.{offers_text, offers_of_text, lent_text, offer_numbered_text}
use Rattle.station_tables_records.proofs.Texts.{open_offer_text, last_offer_text, offer_page_text, insert_offer_text}
use Rattle.station_tables_records.proofs.Texts.{new_offer, withdraw_offer_text, withdrawn_offer, offers_query}
use Rattle.station_tables_records.proofs.Texts.{is_first_at, are_both_at, is_open_at, offer_columns}
use Rattle.station_tables_records.proofs.AsksNumbered.{AsksNumbered}

pub record OfferTexts : Type 0 where
  pub whole : {more : List Table} → Opens (first_and more) offers_text (offers_query [])
  pub asks : AsksNumbered centre_schema 9 offer_columns offers_of_text offer_page_text last_offer_text
      offer_numbered_text
  pub lent : Selects centre_schema lent_text (offers_query (is_first_at 3))
  pub open_to : Selects centre_schema open_offer_text (offers_query is_open_at)
  pub insert : Means centre_schema insert_offer_text (Insert 4 (Values new_offer 11))
  pub withdraw : Means centre_schema withdraw_offer_text
      (Update 4 (record { lets = []; body = plain_query 9 (are_both_at 1 2) withdrawn_offer [] }))

pub offer_texts : OfferTexts
unfolding understood everything
offer_texts = record {
  whole =
      record {
        selects =
            record { names = _; is = refl; plain = (refl, refl); unlisted = refl; reads = λ schema base. refl };
        fits =
            record { whole = (omega arith, refl); typed = refl };
      };
  asks = record {
    all = record { names = _; is = refl; plain = (refl, refl); unlisted = refl; reads = λ schema base. refl };
    page = record { names = _; is = refl; plain = (refl, refl); unlisted = refl; reads = λ schema base. refl };
    last = record { names = _; is = refl; plain = (refl, refl); unlisted = refl; reads = λ schema base. refl };
    one = record { names = _; is = refl; plain = (refl, refl); unlisted = refl; reads = λ schema base. refl };
  };
  lent = record { names = _; is = refl; plain = (refl, refl); unlisted = refl; reads = λ schema base. refl };
  open_to = record { names = _; is = refl; plain = (refl, refl); unlisted = refl; reads = λ schema base. refl };
  insert = record { is = refl; plain = (refl, refl) };
  withdraw = record { is = refl; plain = (refl, refl) };
}
