-- `load_view`: what the channel sees, or `None` where it isn't in the plan.
use Rattle.std.proofs.Common.{◌≡◌, sym, ap, ◌∙◌, subst, arith, rules}
use Rattle.std.specs.Prelude.{IfOk}
use Rattle.sqlite.specs.State.{HasCleanDisk}
use Rattle.sqlite.specs.Held.{state}
use Rattle.channel_view_model.specs.Centre.{Centre, plan_of, view_of}
use Rattle.channel_view_model.specs.Rules.{KeepsRules}
use Rattle.station_tables_records.specs.Inside.{inside}
use Rattle.station_tables_statements.proofs.StandLemmas.{keeps_centre, where_ok}
use Rattle.station_tables_writing.specs.Tables.{LeavesSets}
use Rattle.station_tables_writing.proofs.StandLemmas.{leaves_kept}
use Rattle.station_tables_reading.proofs.SeenLemmas.{rules_kept}
use Rattle.station_tables.proofs.loading.load_view.Goals as goal

pub returns-clause-view : goal.returns-clause-view
returns-clause-view g c clean set stands known =
    let old = state g.S.Store c.args.conn.now in
    let ch = c.args.channel in
    let dropped : HasCleanDisk (state g.S.Store c.drop-tx.new.self.0) = search (rules, clean) in
    let before : HasCleanDisk (inside g.S.Store c.read_tested_view.new.tx) =
    omega (arith, dropped, c.drop-tx.ensures.survives.clean) in
    let kept = rw c.transaction-tx.ensures.begun at c.read_tested_view.ensures.reads.survives.clean in
    let early : HasCleanDisk old = omega (arith, kept, before) in
    where_ok c.read_tested_view.result _
    ((rw c.transaction-tx.ensures.begun at c.read_tested_view.ensures.reads.same) before)
    (λ same.
    let s = stands early same.0.was_open in
    subst (λ (all : Centre). IfOk c.read_tested_view.result (λ view. view ≡ view_of ch all)) s.holds.rows_are
    ((rw c.transaction-tx.ensures.begun at c.read_tested_view.ensures.view) (keeps_centre old set stands) before
    (subst KeepsRules (sym s.holds.rows_are) s.holds.rules) (ap (plan_of ch) s.holds.rows_are ∙ known)))

-- what a channel sees is given of rows that keep the rules alone
pub returns-clause-rules : goal.returns-clause-rules
returns-clause-rules g c clean set stands =
    let dropped : HasCleanDisk (state g.S.Store c.drop-tx.new.self.0) = search (rules, clean) in
    let before : HasCleanDisk (inside g.S.Store c.read_tested_view.new.tx) =
    omega (arith, dropped, c.drop-tx.ensures.survives.clean) in
    rules_kept g.S.Store _ _ _ c.read_tested_view.result set c.transaction-tx.ensures.begun
    c.read_tested_view.ensures.reads before
    stands

-- what a stop leaves is what it left before
pub returns-clause-sets : goal.returns-clause-sets
returns-clause-sets g c sets =
    let begun : LeavesSets (inside g.S.Store c.transaction-tx.result) = rw c.transaction-tx.ensures.begun sets in
    let dropped : LeavesSets (state g.S.Store c.drop-tx.new.self.0) =
    leaves_kept _ _ c.drop-tx.ensures.survives (leaves_kept _ _ c.read_tested_view.ensures.reads.survives begun) in
    search (rules, dropped)
