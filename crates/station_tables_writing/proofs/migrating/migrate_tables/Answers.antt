-- `migrate_tables`: adds the table of windows, and sets the version.
use Rattle.std.proofs.Common.{pos, true≢false, Err, sym, ◌∙◌, subst, arith}
use Rattle.sqlite.specs.State.{HasCleanDisk}
use Rattle.sqlite_resolve.specs.declared.error.CompileError.TheVariants.{Exists}
use Rattle.station_tables_records.specs.Inside.{inside}
use Rattle.station_tables_records.specs.Schema.{centre_schema}
use Rattle.station_tables_records.specs.OfficeRow.{HasVersion}
use Rattle.station_tables_records.proofs.Texts.{create_span_text}
use Rattle.station_tables_writing.proofs.AddLemmas.{adds_spans}
use Rattle.station_tables_writing.proofs.FreeLemmas.{free_of}
use Rattle.station_tables_writing.proofs.MigrationLemmas.{migrated}
use Rattle.station_tables_writing.proofs.TakenLemmas.{never_runs, span_there}
use Rattle.station_tables_writing.proofs.VersionLemmas.{sets_version}
use Rattle.station_tables_writing.proofs.migrating.migrate_tables.Goals as goal

pub returns-in-Ok-clause-makes : goal.returns-in-Ok-clause-makes
returns-in-Ok-clause-makes g c rows first clean =
    let old = inside g.S.Store c.args.tx.now in
    let mid = inside g.S.Store c.run.new.tx in
    let new = inside g.S.Store c.run-2.new.tx in
    let late : HasCleanDisk mid = omega (arith, c.run-2.ensures.writes.survives.clean, clean) in
    let added = c.in_default.ensures.ran late in
    let held = first added.was_clean added.ran.1.was_open in
    let adds = adds_spans old mid held.first.schema added.count added.ran in
    let set = c.in-Ok.ensures.ran clean in
    let sets =
    sets_version mid new adds.schema_is (pos 1) (subst (HasVersion (pos 1)) (sym adds.others.0) held.first.office)
    set.count set.ran in
    (sets.shown.is_open, migrated old mid new rows held adds sets)

pub returns-in-Ok-clause-taken : goal.returns-in-Ok-clause-taken
returns-in-Ok-clause-taken g c centre clean =
    let late : HasCleanDisk (inside g.S.Store c.run.new.tx) =
    omega (arith, c.run-2.ensures.writes.survives.clean, clean) in
    let added = c.in_default.ensures.ran late in
    never_runs _ _ create_span_text centre_schema Exists span_there (centre added.was_clean added.ran.1.was_open)
    added.count added.ran

pub returns-in-Err-clause-free : goal.returns-in-Err-clause-free
returns-in-Err-clause-free g c first clean ours =
    let early : HasCleanDisk (inside g.S.Store c.args.tx.now) =
    omega (arith, c.run.ensures.writes.survives.clean, clean) in
    true≢false
    (sym (c.creation_code.ensures.taken ours)
    ∙ free_of _ _ (first early) (Err c.in-Err.error) c.in-Err.ensures.ended (c.in-Err.ensures.runs clean))
