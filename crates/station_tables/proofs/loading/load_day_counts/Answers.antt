-- `load_day_counts`: what the days table tells of each of the channel's days.
use Rattle.std.proofs.Common.{◌≡◌, ap, ◌∙◌, subst, arith, rules}
use Rattle.std.specs.Prelude.{IfOk}
use Rattle.std.specs.Option.{option_map}
use Rattle.sqlite.specs.State.{HasCleanDisk}
use Rattle.sqlite.specs.Held.{state}
use Rattle.channel_view_model.specs.Centre.{Centre, plan_of, view_of}
use Rattle.station_tables_records.specs.Inside.{inside}
use Rattle.station_tables_statements.proofs.StandLemmas.{keeps_centre, where_ok}
use Rattle.station_tables_writing.specs.Tables.{LeavesSets}
use Rattle.station_tables_writing.proofs.StandLemmas.{leaves_kept}
use Rattle.channel_view_model.specs.Counts.{counts_seen}
use Rattle.station_tables_reading.proofs.SeenLemmas.{own_set, rules_kept}
use Rattle.station_tables.proofs.loading.load_day_counts.Goals as goal

pub returns-clause-counts : goal.returns-clause-counts
returns-clause-counts g c clean set stands known =
    let old = state g.S.Store c.args.conn.now in
    let ch = c.args.channel in
    let dropped : HasCleanDisk (state g.S.Store c.drop-tx.new.self.0) = search (rules, clean) in
    let before : HasCleanDisk (inside g.S.Store c.read_day_counts.new.tx) =
    omega (arith, dropped, c.drop-tx.ensures.survives.clean) in
    let kept = rw c.transaction-tx.ensures.begun at c.read_day_counts.ensures.reads.survives.clean in
    let early : HasCleanDisk old = omega (arith, kept, before) in
    where_ok c.read_day_counts.result _
    ((rw c.transaction-tx.ensures.begun at c.read_day_counts.ensures.reads.same) before)
    (λ same.
    let s = stands early same.0.was_open in
    subst
    (λ (all : Centre). IfOk c.read_day_counts.result
    (λ counts. option_map (λ v. v.items) counts ≡ option_map counts_seen (view_of ch all)))
    s.holds.rows_are
    ((rw c.transaction-tx.ensures.begun at c.read_day_counts.ensures.counts) (keeps_centre old set stands) before
    (own_set old.now set s.holds) (ap (plan_of ch) s.holds.rows_are ∙ known)))

-- they are given of rows that keep the rules alone
pub returns-clause-rules : goal.returns-clause-rules
returns-clause-rules g c clean set stands =
    let dropped : HasCleanDisk (state g.S.Store c.drop-tx.new.self.0) = search (rules, clean) in
    let before : HasCleanDisk (inside g.S.Store c.read_day_counts.new.tx) =
    omega (arith, dropped, c.drop-tx.ensures.survives.clean) in
    rules_kept g.S.Store _ _ _ c.read_day_counts.result set c.transaction-tx.ensures.begun
    c.read_day_counts.ensures.reads
    before stands

-- what a stop leaves is what it left before
pub returns-clause-sets : goal.returns-clause-sets
returns-clause-sets g c sets =
    let begun : LeavesSets (inside g.S.Store c.transaction-tx.result) = rw c.transaction-tx.ensures.begun sets in
    let dropped : LeavesSets (state g.S.Store c.drop-tx.new.self.0) =
    leaves_kept _ _ c.drop-tx.ensures.survives (leaves_kept _ _ c.read_day_counts.ensures.reads.survives begun) in
    search (rules, dropped)
