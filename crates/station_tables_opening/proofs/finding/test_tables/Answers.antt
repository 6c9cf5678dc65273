-- `test_tables`: tests that the tables are those of a centre.
use Rattle.std.proofs.Common.{sym, subst, arith, ap, ◌∙◌}
use Rattle.sqlite.specs.State.{HasCleanDisk}
use Rattle.sqlite.specs.Effect.{Database}
use Rattle.station_tables_records.specs.Inside.{inside}
use Rattle.station_tables_statements.specs.Rows.{channels_in}
use Rattle.station_tables_opening.specs.Opening.{HoldsRules, HasTablesOf, IsCentreIn, database_in, number_of}
use Rattle.station_tables_records.proofs.MadeLemmas.{handed_on}
use Rattle.station_tables_opening.proofs.FindLemmas.{first_after, known_of, of_after, is_centre, rules_of}
use Rattle.station_tables_opening.proofs.FindLemmas.{version_in, one_version, known_after, known_version}
use Rattle.station_tables_opening.proofs.finding.test_tables.Goals as goal

pub returns-clause-rows : goal.returns-clause-rows
returns-clause-rows g c clean has =
    let old = inside g.S.Store c.args.tx.now in
    let mid = inside g.S.Store c.test_office.new.tx in
    let v = c.in_ok-version.version in
    let clean_mid : HasCleanDisk mid = omega (arith, c.test_rows.ensures.reads.survives.clean, clean) in
    let early : HasCleanDisk old = omega (arith, c.test_office.ensures.reads.survives.clean, clean_mid) in
    let same = c.in_ok-version.ensures.reads.same clean_mid in
    let office = c.in_ok-version.ensures.office (known_of v old has) clean_mid in
    let tested = c.in_ok-plan.ensures.rules (of_after old mid same early v has) clean in
    is_centre v old early same.0.was_open has office
    (subst (λ (d : Database). HoldsRules v d.trees) same.0.now_is tested)

pub returns-in_err-version-clause-ours : goal.returns-in_err-version-clause-ours
returns-in_err-version-clause-ours g c clean =
    handed_on _ c.in_err-version.field-0.0 c.from_residual.result c.from_residual.ensures.1 (λ is v has centre.
    let old = inside g.S.Store c.args.tx.now in
    c.in_err-version.ensures.ours (known_of v old has) clean is (number_of v)
    (version_in v (database_in v old.now.trees) centre))

pub returns-in_err-version-clause-known : goal.returns-in_err-version-clause-known
returns-in_err-version-clause-known g c known clean =
    handed_on _ c.in_err-version.field-0.0 c.from_residual.result c.from_residual.ensures.1
    (λ is version has. absurd (c.in_err-version.ensures.ours known clean is version has))

pub returns-in_err-plan-clause-ours : goal.returns-in_err-plan-clause-ours
returns-in_err-plan-clause-ours g c clean =
    handed_on _ c.in_err-plan.field-0.0 c.from_residual-in_err-plan.result
    c.from_residual-in_err-plan.ensures.1 (λ is v has centre.
    let old = inside g.S.Store c.args.tx.now in
    let mid = inside g.S.Store c.test_office.new.tx in
    let w = c.in_ok-version.version in
    let clean_mid : HasCleanDisk mid = omega (arith, c.test_rows.ensures.reads.survives.clean, clean) in
    let early : HasCleanDisk old = omega (arith, c.test_office.ensures.reads.survives.clean, clean_mid) in
    let same = c.in_ok-version.ensures.reads.same clean_mid in
    let office = c.in_ok-version.ensures.office (known_of v old has) clean_mid in
    let one = one_version v w (old.now.trees 0) (version_in v (database_in v old.now.trees) centre) office in
    let has_w = subst (λ u. HasTablesOf u old) one has in
    let centre_w = subst (λ u. IsCentreIn u old.now.trees) one centre in
    let holds = rules_of w (database_in w old.now.trees) centre_w in
    c.in_err-plan.ensures.ours (of_after old mid same early w has_w) clean is
    (subst (λ (d : Database). HoldsRules w d.trees) (sym same.0.now_is) holds))

pub returns-in_err-plan-clause-known : goal.returns-in_err-plan-clause-known
returns-in_err-plan-clause-known g c known clean =
    handed_on _ c.in_err-plan.field-0.0 c.from_residual-in_err-plan.result
    c.from_residual-in_err-plan.ensures.1 (λ is version has.
    let old = inside g.S.Store c.args.tx.now in
    let clean_mid : HasCleanDisk (inside g.S.Store c.test_office.new.tx) =
    omega (arith, c.test_rows.ensures.reads.survives.clean, clean) in
    known_version c.in_ok-version.version version (old.now.trees 0) (c.in_ok-version.ensures.office known clean_mid)
    has)

pub returns-clause-missing : goal.returns-clause-missing
returns-clause-missing g c first clean =
    let old = inside g.S.Store c.args.tx.now in
    let mid = inside g.S.Store c.test_office.new.tx in
    let clean_mid : HasCleanDisk mid = omega (arith, c.test_rows.ensures.reads.survives.clean, clean) in
    let early : HasCleanDisk old = omega (arith, c.test_office.ensures.reads.survives.clean, clean_mid) in
    let same = c.in_ok-version.ensures.reads.same clean_mid in
    c.in_ok-plan.ensures.missing (first_after old mid same early first) clean

pub returns-clause-office : goal.returns-clause-office
returns-clause-office g c known clean =
    let clean_mid : HasCleanDisk (inside g.S.Store c.test_office.new.tx) =
    omega (arith, c.test_rows.ensures.reads.survives.clean, clean) in
    c.in_ok-version.ensures.office known clean_mid

pub returns-clause-plan : goal.returns-clause-plan
returns-clause-plan g c known clean =
    let old = inside g.S.Store c.args.tx.now in
    let mid = inside g.S.Store c.test_office.new.tx in
    let clean_mid : HasCleanDisk mid = omega (arith, c.test_rows.ensures.reads.survives.clean, clean) in
    let early : HasCleanDisk old = omega (arith, c.test_office.ensures.reads.survives.clean, clean_mid) in
    let same = c.in_ok-version.ensures.reads.same clean_mid in
    c.in_ok-plan.ensures.plan (known_after old mid same early known) clean
    ∙ ap (λ (d : Database). channels_in d.trees) same.0.now_is
