-- `load_vaults`: the vaults of all channels, where they take few enough bytes.
use Rattle.std.proofs.Common.{sym, ap, ◌∙◌, subst, arith, rules}
use Rattle.std.specs.Prelude.{IfOk}
use Rattle.sqlite.specs.State.{HasCleanDisk}
use Rattle.sqlite.specs.Held.{state}
use Rattle.channel_view_model.specs.Centre.{Centre}
use Rattle.channel_view_model.specs.Rules.{KeepsRules}
use Rattle.station_tables_records.specs.Inside.{inside}
use Rattle.station_tables_statements.proofs.StandLemmas.{keeps_centre, where_ok}
use Rattle.station_tables_writing.specs.Tables.{LeavesSets}
use Rattle.station_tables_writing.proofs.StandLemmas.{leaves_kept}
use Rattle.station_tables_reading.specs.Vaults.{AreVaultsRead}
use Rattle.station_tables_reading.proofs.SeenLemmas.{rules_kept}
use Rattle.station_tables.proofs.loading.load_vaults.Goals as goal

pub returns-clause-vaults : goal.returns-clause-vaults
returns-clause-vaults g c clean set stands known =
    let old = state g.S.Store c.args.conn.now in
    let dropped : HasCleanDisk (state g.S.Store c.drop-tx.new.self.0) = search (rules, clean) in
    let before : HasCleanDisk (inside g.S.Store c.read_vaults.new.tx) =
    omega (arith, dropped, c.drop-tx.ensures.survives.clean) in
    let kept = rw c.transaction-tx.ensures.begun at c.read_vaults.ensures.reads.survives.clean in
    let early : HasCleanDisk old = omega (arith, kept, before) in
    where_ok c.read_vaults.result _
    ((rw c.transaction-tx.ensures.begun at c.read_vaults.ensures.reads.same) before)
    (λ same.
    let s = stands early same.0.was_open in
    subst (λ (all : Centre). IfOk c.read_vaults.result (AreVaultsRead all c.args.most)) s.holds.rows_are
    ((rw c.transaction-tx.ensures.begun at c.read_vaults.ensures.vaults) (keeps_centre old set stands) before
    (subst KeepsRules (sym s.holds.rows_are) s.holds.rules)
    (ap (λ (all : Centre). all.channels) s.holds.rows_are ∙ known)))

-- they are given of rows that keep the rules alone
pub returns-clause-rules : goal.returns-clause-rules
returns-clause-rules g c clean set stands =
    let dropped : HasCleanDisk (state g.S.Store c.drop-tx.new.self.0) = search (rules, clean) in
    let before : HasCleanDisk (inside g.S.Store c.read_vaults.new.tx) =
    omega (arith, dropped, c.drop-tx.ensures.survives.clean) in
    rules_kept g.S.Store _ _ _ c.read_vaults.result set c.transaction-tx.ensures.begun c.read_vaults.ensures.reads
    before
    stands

-- what a stop leaves is what it left before
pub returns-clause-sets : goal.returns-clause-sets
returns-clause-sets g c sets =
    let begun : LeavesSets (inside g.S.Store c.transaction-tx.result) = rw c.transaction-tx.ensures.begun sets in
    let dropped : LeavesSets (state g.S.Store c.drop-tx.new.self.0) =
    leaves_kept _ _ c.drop-tx.ensures.survives (leaves_kept _ _ c.read_vaults.ensures.reads.survives begun) in
    search (rules, dropped)
