-- `open_centre`: tests the tables of a centre, and makes those of version 1 of version 2.
use Rattle.std.proofs.Common.{◌≡◌, ◌⊎◌, inl, inr, IsTrue, Ok, Err, sym, subst, arith, ◌∙◌}
use Rattle.sqlite_trees.specs.Tree.{Trees}
use Rattle.sqlite.specs.State.{State, HasCleanDisk}
use Rattle.sqlite.specs.Held.{state}
use Rattle.channel_plan.specs.Refusal.{refused}
use Rattle.channel_plan.specs.declared.refusal.Code.{Code}
use Rattle.channel_plan.specs.declared.refusal.Code.TheVariants.{NotOurs, SchemaVersion}
use Rattle.station_tables_records.specs.OfficeRow.{HasVersion}
use Rattle.station_tables_statements.specs.Rows.{Holds, Stands}
use Rattle.station_tables_opening.specs.declared.finding.Version.{Version}
use Rattle.station_tables_opening.specs.declared.finding.Version.TheVariants.{First, Second}
use Rattle.station_tables_opening.specs.Opening.{HasTablesOf, IsCentreIn, IsCentreOf, database_in, number_of, rows_at}
use Rattle.station_tables_records.proofs.MadeLemmas.{handed_on}
use Rattle.station_tables_opening.proofs.FindLemmas.{known_of, known_version, one_version, version_in}
use Rattle.station_tables_writing.specs.Migrating.{Migrates, RefusesToMigrate}
use Rattle.station_tables_opening.specs.Opens.{RefusesToOpen}
use Rattle.station_tables_opening.proofs.OpenLemmas.{second_stands, first_set, centre_then, first_then, left_found, may_be}
use Rattle.station_tables_opening.proofs.OpenLemmas.{no_more, may_be_so, for_code, no_version, opens_of, refuses_of}
use Rattle.station_tables_opening.proofs.opening.open_centre.Goals as goal

pub returns-in_err-found-clause-refused : goal.returns-in_err-found-clause-refused
returns-in_err-found-clause-refused g c =
    let old = state g.S.Store c.args.conn.now in
    let new = state g.S.Store c.find_centre.new.conn in
    let found = c.in_err-found.ensures.refused in
    let e = c.in_err-found.field-0.0 in
    handed_on (λ (e : Code). RefusesToOpen old new (refused e)) e c.from_residual.result c.from_residual.ensures.1
    (refuses_of {X = Version} old new (Err e) c.schema.ensures.live found.version found.ours found.known found.codes
    (λ clean. omega (arith, clean, c.find_centre.ensures.survives.clean))
    (λ clean. let kept = found.kept clean in
    record { was_open = kept.was_open; committed_is = λ held. inl (kept.committed held) })
    (λ is clean db may. c.find_centre.ensures.survives.crash clean db may)
    (λ clean version has db may. elim (c.find_centre.ensures.survives.crash clean db may)
    [ inl before ↦ inl before | inr here ↦ inr (inl here) ]))

pub returns-in-Second-clause-opened : goal.returns-in-Second-clause-opened
returns-in-Second-clause-opened g c =
    opens_of {X = Version} old new (Ok Second) (λ clean version has. of_version clean version has)
    (λ clean. c.in_ok-found.ensures.found.alone clean)
    (λ known clean. (c.in_ok-found.found.version, c.in_ok-found.ensures.found.office known clean))
  where
    old : State
    old = state g.S.Store c.args.conn.now

    new : State
    new = state g.S.Store c.find_centre.new.conn

    second : c.in_ok-found.found.version ≡ Second
    second = c.in-Second.is

    of_version : HasCleanDisk new → (version : Version) → HasTablesOf version old
        → Stands new (rows_at version old.now.trees)
    of_version clean First has =
        absurd
        (let one = c.in_ok-found.ensures.found.missing has clean in let no : First ≡ Second = sym one ∙ second in cc)
    of_version clean Second has =
        second_stands old new c.schema.ensures.live (c.in_ok-found.ensures.found.same clean)
        (subst (λ v. HasTablesOf v old → IsCentreOf v old.now) second (c.in_ok-found.ensures.found.rows clean) has)

pub returns-in_ok-migrate_centre-in-First-clause-opened : goal.returns-in_ok-migrate_centre-in-First-clause-opened
returns-in_ok-migrate_centre-in-First-clause-opened g c =
    opens_of {X = Version} old new (Ok First) rows (λ clean. made.alone clean)
    (λ known clean. (
      c.in_ok-found.found.version,
      c.in_ok-found.ensures.found.office known (c.migrate_centre.ensures.clean clean),
    ))
  where
    old : State
    old = state g.S.Store c.args.conn.now

    mid : State
    mid = state g.S.Store c.find_centre.new.conn

    new : State
    new = state g.S.Store c.migrate_centre.new.conn

    made : Migrates mid new
    made = c.in_ok-migrate_centre-in-First.ensures.made

    rows : HasCleanDisk new → (version : Version) → HasTablesOf version old → Stands new (rows_at version old.now.trees)
    rows clean First has =
        let then = c.migrate_centre.ensures.clean clean in
        let centre =
        subst (λ v. HasTablesOf v old → IsCentreOf v old.now) c.in-First.is
        (c.in_ok-found.ensures.found.rows then) has in
        made.ok clean (rows_at First old.now.trees)
        (first_set old mid c.schema.ensures.live (c.in_ok-found.ensures.found.same then) centre)
    rows clean Second has =
        let then = c.migrate_centre.ensures.clean clean in
        let early : HasCleanDisk old = omega (arith, then, c.find_centre.ensures.survives.clean) in
        absurd (made.taken (centre_then old mid (c.in_ok-found.ensures.found.same then) early has) clean)

pub returns-in_err-migrate_centre-in-First-clause-refused : goal.returns-in_err-migrate_centre-in-First-clause-refused
returns-in_err-migrate_centre-in-First-clause-refused g c =
    handed_on (λ (x : Code). RefusesToOpen old new (refused x)) e c.from_residual-in_err-migrate_centre-in-First.result
    c.from_residual-in_err-migrate_centre-in-First.ensures.1
    (refuses_of {X = Version} old new (Err e) c.schema.ensures.live (no_version {X = Version} (Err e) _ refuses.codes)
    ours
    (λ is known clean version has. known_version c.in_ok-found.found.version version (old.now.trees 0)
    (c.in_ok-found.ensures.found.office known (c.migrate_centre.ensures.clean clean)) has)
    (inr refuses.codes) before_clean
    (λ clean. left_found old mid new (c.in_ok-found.ensures.found.same (c.migrate_centre.ensures.clean clean))
    (refuses.left clean))
    others stop)
  where
    old : State
    old = state g.S.Store c.args.conn.now

    mid : State
    mid = state g.S.Store c.find_centre.new.conn

    new : State
    new = state g.S.Store c.migrate_centre.new.conn

    e : Code
    e = c.in_err-migrate_centre-in-First.field-0.0

    refuses : RefusesToMigrate mid new e
    refuses = c.in_err-migrate_centre-in-First.ensures.refused

    before_clean : HasCleanDisk new → HasCleanDisk old
    before_clean clean = omega (arith, c.migrate_centre.ensures.clean clean, c.find_centre.ensures.survives.clean)

    ours : e ≡ NotOurs → HasCleanDisk new → (version : Version) → HasTablesOf version old
        → IsCentreIn version old.now.trees → ⊥
    ours is clean version has centre =
        let then = c.migrate_centre.ensures.clean clean in
        let office =
        subst (λ v. HasVersion (number_of v) (old.now.trees 0)) c.in-First.is
        (c.in_ok-found.ensures.found.office (known_of version old has) then) in
        let one : version ≡ First =
        one_version version First (old.now.trees 0) (version_in version (database_in version old.now.trees) centre)
        office in
        refuses.free is
        (first_then old mid (c.in_ok-found.ensures.found.same then) (before_clean clean)
        (subst (λ v. HasTablesOf v old) one has)) clean

    others : (e ≡ NotOurs) ⊎ (e ≡ SchemaVersion) → HasCleanDisk new → (db : Trees) → new.may_leave db
        → old.may_leave db ⊎ (IsTrue old.is_open × (db ≡ old.now.trees))
    others =
        for_code {X = Version} (Err e)
        (λ _. HasCleanDisk new → (db : Trees) → new.may_leave db
        → old.may_leave db ⊎ (IsTrue old.is_open × (db ≡ old.now.trees))) refuses.ours refuses.codes
        (λ x is left clean db may. no_more
        (may_be old mid new _ _
        (c.migrate_centre.ensures.clean clean) clean c.find_centre.ensures.survives left db may))

    stop : HasCleanDisk new → (version : Version) → HasTablesOf version old → (db : Trees) → new.may_leave db
        → old.may_leave db ⊎ ((IsTrue old.is_open × (db ≡ old.now.trees)) ⊎ Holds (rows_at version old.now.trees) db)
    stop clean First has db may =
        let then = c.migrate_centre.ensures.clean clean in
        let centre =
        subst (λ v. HasTablesOf v old → IsCentreOf v old.now) c.in-First.is
        (c.in_ok-found.ensures.found.rows then) has in
        may_be old mid new _ _
        then clean c.find_centre.ensures.survives
        (c.migrate_centre.ensures.survives (rows_at First old.now.trees)
        (first_set old mid c.schema.ensures.live (c.in_ok-found.ensures.found.same then) centre)) db may
    stop clean Second has db may =
        let then = c.migrate_centre.ensures.clean clean in
        may_be_so (λ none. absurd none)
        (may_be old mid new _ _
        then clean c.find_centre.ensures.survives
        (c.migrate_centre.ensures.spares
        (centre_then old mid (c.in_ok-found.ensures.found.same then) (before_clean clean) has)) db may)
