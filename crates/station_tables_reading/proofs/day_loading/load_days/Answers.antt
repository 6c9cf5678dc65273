-- `load_days`: the days of a channel with numbers from one to another, each with the channel, by number.
use Rattle.std.proofs.Common.{◌≡◌, [], ◌∷◌, List, map, filter, sym, ap, ap₂, ◌∙◌, subst, arith}
use Rattle.sqlite.specs.State.{HasCleanDisk}
use Rattle.sqlite.specs.Effect.{Database}
use Rattle.channel_plan.specs.declared.plan.PlanRow.{PlanRow}
use Rattle.station_tables_records.specs.Inside.{inside}
use Rattle.station_tables_records.specs.MadeDays.{DaySet, days_made, day_made, is_day_in, is_item_in}
use Rattle.station_tables_records.proofs.DayMadeLemmas.{days_within, of_one_row}
use Rattle.station_tables_records.specs.TwoTables.{HasBoth, HasBothNow}
use Rattle.station_tables_records.specs.TablePairs.{day_rows_in, day_tables}
use Rattle.station_tables_statements.specs.DayCalls.{days_in}
use Rattle.station_tables_records.proofs.InsideLemmas.{reads_failed, reads_on}
use Rattle.station_tables_statements.proofs.LookLemmas.{reads_err, reads_then}
use Rattle.station_tables_reading.proofs.day_loading.load_days.Goals as goal

pub returns-in_err-days-clause-reads : goal.returns-in_err-days-clause-reads
returns-in_err-days-clause-reads g c =
    reads_failed g.S.Store _ _ _ _ c.from_residual.ensures.0 c.load_day_rows.ensures.reads

pub returns-in_err-items-clause-reads : goal.returns-in_err-items-clause-reads
returns-in_err-items-clause-reads g c =
    reads_failed g.S.Store _ _ _ _ c.from_residual-in_err-items.ensures.0
    (reads_then g.S.Store _ _ _ _ _ c.in_ok-days.ensures.reads c.load_item_rows.ensures.reads)

pub returns-in-Ok-clause-reads : goal.returns-in-Ok-clause-reads
returns-in-Ok-clause-reads g c =
    reads_on g.S.Store _ _ _ _
    (reads_then g.S.Store _ _ _ _ _ c.in_ok-days.ensures.reads c.in_ok-items.ensures.reads)

pub returns-clause-reads : goal.returns-clause-reads
returns-clause-reads g c =
    reads_err g.S.Store _ _ _ _
    (reads_then g.S.Store _ _ _ _ _ c.in_ok-days.ensures.reads c.in_ok-items.ensures.reads)

pub returns-in-Ok-clause-days : goal.returns-in-Ok-clause-days
returns-in-Ok-clause-days g c held clean channels found =
    let old = inside g.S.Store c.args.tx.now in
    let mid = inside g.S.Store c.load_day_rows.new.tx in
    let plan = c.args.plan.now in
    let first = c.args.first in
    let last = c.args.last in
    let clean_mid : HasCleanDisk mid = omega (arith, c.load_item_rows.ensures.reads.survives.clean, clean) in
    let early : HasCleanDisk old = omega (arith, c.load_day_rows.ensures.reads.survives.clean, clean_mid) in
    let same = c.in_ok-days.ensures.reads.same clean_mid in
    let rows_same : days_in mid ≡ days_in old = ap (λ (d : Database). day_rows_in d.trees) same.0.now_is in
    let held_mid : HasBothNow day_tables mid =
    λ early_mid opened. subst (HasBoth day_tables) (sym same.0.now_is) (held early same.0.was_open) in
    let days_are : c.deref.result.now ≡ filter (is_day_in plan.ch first last) (days_in old).days =
    c.deref.ensures.value ∙ c.in_ok-days.ensures.days held clean_mid in
    let items_are : c.deref-2.result.now ≡ filter (is_item_in plan.ch first last) (days_in old).items =
    c.deref-2.ensures.value ∙ c.in_ok-items.ensures.items held_mid clean
    ∙ ap (λ (s : DaySet). filter (is_item_in plan.ch first last) s.items) rows_same in
    c.in-Ok.ensures.days
    ∙ ap (λ (l : List PlanRow). days_made l (record { days = c.deref.result.now; items = c.deref-2.result.now }))
    c.from_ref.ensures.value
    ∙ ap₂ (λ days items. map (day_made (plan ∷ []) items) days) days_are items_are
    ∙ of_one_row plan channels found first last (filter (is_item_in plan.ch first last) (days_in old).items)
    (days_in old).days
    ∙ days_within channels plan.ch first last (days_in old).items (days_in old).days
