-- `office_rows`: all rows of `office`, each with its rowid, `one` and version.
use Rattle.std.proofs.Common.{[]}
use Rattle.station_tables_records.proofs.FailLemmas.{fails_either}
use Rattle.station_tables_records.proofs.InsideLemmas.{Queried, reads_inside, shown_inside, failed_inside}
use Rattle.station_tables_records.specs.Schema.{first_schema, centre_schema}
use Rattle.station_tables_records.proofs.Texts.{office_text, office_columns, by_id}
use Rattle.station_tables_records.proofs.TextLemmas.{office_texts}
use Rattle.station_tables_statements.proofs.FirstLemmas.{known_version}
use Rattle.station_tables_statements.proofs.office.office_rows.Goals as goal

pub returns : goal.returns
returns g c =
    let call : Queried g.S.Store c.args.tx.now c.query_all.new.self office_text [] (λ v. v.items) c.query_all.result =
    record {
      same_reference = c.query_all.ensures.same_reference;
      ok = c.query_all.ensures.ok;
      err =
          c.query_all.ensures.err;
      survives = c.query_all.ensures.survives;
    } in record {
      reads = reads_inside _ _ _ _ _ call (office_texts.whole {more = []}).selects.reads;
      rows =
          λ ours clean. shown_inside _ _ _ _ _ call clean
          (λ early held rows shown. known_version _ _ (ours early held) rows shown);
      short =
          λ ours clean. failed_inside _ _ _ _ _ call clean
          (λ early. fails_either _ _ centre_schema first_schema office_text [] 0 [] office_columns by_id
          office_texts.whole.selects office_texts.whole.fits office_texts.whole.selects office_texts.whole.fits
          (ours early));
    }
