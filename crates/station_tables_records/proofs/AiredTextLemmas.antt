-- What the texts on batches and their lines mean.
use Rattle.std.proofs.Common.{List, [], refl, arith}
use Rattle.sqlite_schema.specs.declared.command.Command.TheVariants.{Insert}
use Rattle.sqlite_schema.specs.declared.command.Source.TheVariants.{Values}
use Rattle.sqlite_schema.specs.declared.schema.Table.{Table}
use Rattle.sqlite_tied.specs.Compute.{everything}
use Rattle.sqlite.specs.Listing.{understood}
use Rattle.station_tables_records.proofs.Selects.{Selects, Means}
use Rattle.station_tables_records.specs.Schema.{first_and, centre_schema}
use Rattle.station_tables_records.proofs.Opens.{Opens}
use Rattle.station_tables_records.proofs.Texts.{are_both_at, is_first_at}
use Rattle.station_tables_records.proofs.AiredTexts.{batches_text, channel_batches_text, batches_of_text, lines_text}
use Rattle.station_tables_records.proofs.AiredTexts.{channel_lines_text, lines_of_text, insert_batch_text}
use Rattle.station_tables_records.proofs.AiredTexts.{insert_line_text, new_batch, new_line, batches_query, lines_query}

pub record AiredTexts : Type 0 where
  pub channel_batches : Selects centre_schema channel_batches_text (batches_query (is_first_at 1))
  pub day_batches : Selects centre_schema batches_of_text (batches_query (are_both_at 1 2))
  pub channel_lines : Selects centre_schema channel_lines_text (lines_query (is_first_at 1))
  pub day_lines : Selects centre_schema lines_of_text (lines_query (are_both_at 1 2))
  pub batches : {more : List Table} → Opens (first_and more) batches_text (batches_query [])
  pub lines : {more : List Table} → Opens (first_and more) lines_text (lines_query [])
  pub insert_batch : Means centre_schema insert_batch_text (Insert 7 (Values new_batch 4))
  pub insert_line : Means centre_schema insert_line_text (Insert 8 (Values new_line 9))

pub aired_texts : AiredTexts
unfolding understood everything
aired_texts = record {
  channel_batches = record { names = _; is = refl; plain = (refl, refl); unlisted = refl; reads = λ schema base. refl };
  day_batches = record { names = _; is = refl; plain = (refl, refl); unlisted = refl; reads = λ schema base. refl };
  channel_lines = record { names = _; is = refl; plain = (refl, refl); unlisted = refl; reads = λ schema base. refl };
  day_lines = record { names = _; is = refl; plain = (refl, refl); unlisted = refl; reads = λ schema base. refl };
  batches =
      record {
        selects =
            record { names = _; is = refl; plain = (refl, refl); unlisted = refl; reads = λ schema base. refl };
        fits =
            record { whole = (omega arith, refl); typed = refl };
      };
  lines =
      record {
        selects =
            record { names = _; is = refl; plain = (refl, refl); unlisted = refl; reads = λ schema base. refl };
        fits =
            record { whole = (omega arith, refl); typed = refl };
      };
  insert_batch = record { is = refl; plain = (refl, refl) };
  insert_line = record { is = refl; plain = (refl, refl) };
}
