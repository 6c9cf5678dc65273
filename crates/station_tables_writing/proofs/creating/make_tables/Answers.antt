-- `make_tables`: makes the ten tables, without a row.
use Rattle.sqlite_resolve.specs.declared.error.CompileError.TheVariants.{Exists}
use Rattle.station_tables_records.specs.Schema.{centre_schema}
use Rattle.station_tables_statements.proofs.StandLemmas.{on_ok_so}
use Rattle.station_tables_records.proofs.Texts.{create_office_text}
use Rattle.station_tables_writing.proofs.MakeLemmas.{centre_made}
use Rattle.station_tables_writing.proofs.TakenLemmas.{never_runs, office_there}
use Rattle.station_tables_writing.proofs.creating.make_tables.Goals as goal

pub returns-clause-makes : goal.returns-clause-makes
returns-clause-makes g c bare clean =
    on_ok_so c.run_all.result (c.run_all.ensures.ran clean) (centre_made g.S.Store c.args.tx.now c.run_all.new.tx bare)

pub returns-clause-taken : goal.returns-clause-taken
returns-clause-taken g c centre clean =
    on_ok_so c.run_all.result (c.run_all.ensures.ran clean)
    (λ all. never_runs _ _ create_office_text centre_schema Exists office_there
    (centre all.1.was_clean all.1.ran.1.was_open) all.1.count all.1.ran)
