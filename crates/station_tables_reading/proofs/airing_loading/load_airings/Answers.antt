-- `load_airings`: what was aired of each day that has a batch, with the channel whose plan row this is, by day.
use Rattle.std.proofs.Common.{◌≡◌, [], ◌∷◌, List, filter, sym, ap, ap₂, ◌∙◌, subst, arith}
use Rattle.std.specs.Prelude.{◌==◌}
use Rattle.sqlite.specs.State.{HasCleanDisk}
use Rattle.sqlite.specs.Effect.{Database}
use Rattle.channel_plan.specs.declared.plan.PlanRow.{PlanRow}
use Rattle.station_tables_records.specs.Inside.{inside}
use Rattle.station_tables_records.specs.MadeAirings.{AiredSet, airings_made}
use Rattle.station_tables_records.proofs.AiringLemmas.{airings_of_channel}
use Rattle.station_tables_records.specs.TwoTables.{HasBoth, HasBothNow}
use Rattle.station_tables_records.specs.TablePairs.{aired_rows_in, aired_tables}
use Rattle.station_tables_statements.specs.AiredCalls.{airings_in}
use Rattle.station_tables_reading.proofs.airing_loading.load_airings.Goals as goal

pub returns-in-Ok-clause-airings : goal.returns-in-Ok-clause-airings
returns-in-Ok-clause-airings g c held clean channels found =
    let old = inside g.S.Store c.args.tx.now in
    let mid = inside g.S.Store c.load_channel_batches.new.tx in
    let plan = c.args.plan.now in
    let rows = airings_in old in
    let clean_mid : HasCleanDisk mid = omega (arith, c.load_channel_lines.ensures.reads.survives.clean, clean) in
    let early : HasCleanDisk old = omega (arith, c.load_channel_batches.ensures.reads.survives.clean, clean_mid) in
    let same = c.in_ok-batches.ensures.reads.same clean_mid in
    let rows_same : airings_in mid ≡ rows = ap (λ (d : Database). aired_rows_in d.trees) same.0.now_is in
    let held_mid : HasBothNow aired_tables mid =
    λ early_mid opened. subst (HasBoth aired_tables) (sym same.0.now_is) (held early same.0.was_open) in
    let batches_are : c.deref.result.now ≡ filter (λ b. b.0 == plan.ch) rows.batches =
    c.deref.ensures.value ∙ c.in_ok-batches.ensures.batches held clean_mid in
    let lines_are : c.deref-2.result.now ≡ filter (λ r. r.0 == plan.ch) rows.lines =
    c.deref-2.ensures.value ∙ c.in_ok-lines.ensures.lines held_mid clean
    ∙ ap (λ (s : AiredSet). filter (λ r. r.0 == plan.ch) s.lines) rows_same in
    c.in-Ok.ensures.airings
    ∙ ap (λ (l : List PlanRow). airings_made l (record { batches = c.deref.result.now; lines = c.deref-2.result.now }))
    c.from_ref.ensures.value
    ∙ ap₂ (λ batches lines. airings_made (plan ∷ []) (record { batches = batches; lines = lines })) batches_are
    lines_are
    ∙ airings_of_channel channels plan found rows
