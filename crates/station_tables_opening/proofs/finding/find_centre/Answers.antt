-- `find_centre`: tests that the tables are those of a centre, and reads what they hold.
use Rattle.std.proofs.Common.{◌≡◌, inr, refl, ◌∙◌, rules, arith}
use Rattle.channel_plan.specs.declared.refusal.Code.TheVariants.{NotOurs, SchemaVersion, Unavailable}
use Rattle.sqlite.specs.State.{HasCleanDisk}
use Rattle.sqlite.specs.Held.{state}
use Rattle.station_tables_records.specs.Inside.{inside}
use Rattle.station_tables_opening.specs.Opening.{IsCentreOf, CommitsShown}
use Rattle.station_tables_records.proofs.MadeLemmas.{handed_on}
use Rattle.station_tables_opening.proofs.finding.find_centre.Goals as goal

pub returns-in_err-found-clause-refused : goal.returns-in_err-found-clause-refused
returns-in_err-found-clause-refused g c =
    let old = state g.S.Store c.args.conn.now in
    let new = state g.S.Store c.drop-tx.new.self.0 in
    handed_on _ c.in_err-found.field-0.0 c.from_residual.result c.from_residual.ensures.1 (record {
      codes = c.in_err-found.ensures.codes;
      version = λ is ours clean.
          let dropped : HasCleanDisk (state g.S.Store c.drop-tx.new.self.0) = search (rules, clean) in
          let before : HasCleanDisk (inside g.S.Store c.test_tables.new.tx) =
          omega (arith, dropped, c.drop-tx.ensures.survives.clean) in
          (rw c.transaction-tx.ensures.begun at c.in_err-found.ensures.version) ours before is;
      ours = λ is clean.
          let dropped : HasCleanDisk (state g.S.Store c.drop-tx.new.self.0) = search (rules, clean) in
          let before : HasCleanDisk (inside g.S.Store c.test_tables.new.tx) =
          omega (arith, dropped, c.drop-tx.ensures.survives.clean) in
          (rw c.transaction-tx.ensures.begun at c.in_err-found.ensures.ours) before is;
      known = λ is ours clean.
          let dropped : HasCleanDisk (state g.S.Store c.drop-tx.new.self.0) = search (rules, clean) in
          let before : HasCleanDisk (inside g.S.Store c.test_tables.new.tx) =
          omega (arith, dropped, c.drop-tx.ensures.survives.clean) in
          (rw c.transaction-tx.ensures.begun at c.in_err-found.ensures.known) ours before is;
      kept = λ clean. search (rules, clean);
    })

pub returns-in-Ok-clause-found : goal.returns-in-Ok-clause-found
returns-in-Ok-clause-found g c =
    let old = state g.S.Store c.args.conn.now in
    let mid = inside g.S.Store c.test_tables.new.tx in
    let last = state g.S.Store c.commit.new.self.0 in
    let v = c.in_ok-found.found.version in
    record {
      rows = λ clean has.
          let done : HasCleanDisk last = search (rules, clean) in
          let early : HasCleanDisk mid = omega (arith, done, c.commit.ensures.survives.clean) in
          let tested : IsCentreOf v old.now =
          (rw c.transaction-tx.ensures.begun at c.in_ok-found.ensures.rows) early has in
          search (rules, tested);
      same = λ clean.
          let done : HasCleanDisk last = search (rules, clean) in
          let early : HasCleanDisk mid = omega (arith, done, c.commit.ensures.survives.clean) in
          let same = (rw c.transaction-tx.ensures.begun at c.in_ok-found.ensures.reads.same) early in
          let shown = (c.in-Ok.ensures.ok done).1 in
          let all : CommitsShown old last =
          record {
            was_open = same.0.was_open;
            now_is = shown.now_is ∙ same.0.now_is;
            committed_is =
                shown.committed_is ∙ same.0.now_is;
          } in
          search (rules, all);
      office = λ known clean.
          let done : HasCleanDisk last = search (rules, clean) in
          let early : HasCleanDisk mid = omega (arith, done, c.commit.ensures.survives.clean) in
          (rw c.transaction-tx.ensures.begun at c.in_ok-found.ensures.office) known early;
      missing = λ first clean.
          let done : HasCleanDisk last = search (rules, clean) in
          let early : HasCleanDisk mid = omega (arith, done, c.commit.ensures.survives.clean) in
          (rw c.transaction-tx.ensures.begun at c.in_ok-found.ensures.missing) first early;
      alone = λ clean. search (rules, clean);
    }

pub returns-in-Ok-clause-plan : goal.returns-in-Ok-clause-plan
returns-in-Ok-clause-plan g c known clean =
    let done : HasCleanDisk (state g.S.Store c.commit.new.self.0) = search (rules, clean) in
    let early : HasCleanDisk (inside g.S.Store c.test_tables.new.tx) =
    omega (arith, done, c.commit.ensures.survives.clean) in
    (rw c.transaction-tx.ensures.begun at c.in_ok-found.ensures.plan) known early

pub returns-in-Err-clause-refused : goal.returns-in-Err-clause-refused
returns-in-Err-clause-refused g c = record {
  codes = inr (inr refl);
  version = λ is. absurd (let no : Unavailable ≡ SchemaVersion = is in cc);
  ours = λ is. absurd (let no : Unavailable ≡ NotOurs = is in cc);
  known = λ is. absurd (let no : Unavailable ≡ NotOurs = is in cc);
  kept = λ clean. search (rules, clean);
}
