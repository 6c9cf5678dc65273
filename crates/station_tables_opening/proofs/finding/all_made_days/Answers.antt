-- `all_made_days`: the days of these channels, which the rows of days and of items make.
use Rattle.std.proofs.Common.{ℕ, sym, subst, arith}
use Rattle.sqlite.specs.Effect.{Database}
use Rattle.sqlite.specs.State.{HasCleanDisk}
use Rattle.station_tables_records.specs.Inside.{inside}
use Rattle.station_tables_records.specs.Table.{HoldsRows}
use Rattle.station_tables_records.specs.MadeDays.{MakeDays}
use Rattle.station_tables_records.specs.DayRows.{day_table}
use Rattle.station_tables_records.specs.ItemRows.{item_table}
use Rattle.station_tables_records.proofs.MadeLemmas.{handed_on}
use Rattle.station_tables_opening.proofs.FindLemmas.{refused_only, same_days, known_after}
use Rattle.station_tables_records.specs.Table.{HoldsFitting, rows_in}
use Rattle.station_tables_records.specs.ItemRows.{item_fits}
use Rattle.station_tables_records.specs.TablePairs.{day_rows_in}
use Rattle.station_tables_records.specs.declared.day_rows.ItemRow.{ItemRow}
use Rattle.station_tables_opening.specs.Parts.{ArePlanned}
use Rattle.station_tables_opening.proofs.PartLemmas.{items_planned}
use Rattle.station_tables_opening.proofs.finding.all_made_days.Goals as goal

pub returns-clause-ours : goal.returns-clause-ours
returns-clause-ours g c known clean =
    let old = inside g.S.Store c.args.tx.now in
    let mid = inside g.S.Store c.all_rows.new.tx in
    let clean_mid : HasCleanDisk mid = omega (arith, clean, c.rows_by_channel.ensures.reads.survives.clean) in
    let early : HasCleanDisk old = omega (arith, clean_mid, c.all_rows.ensures.reads.survives.clean) in
    let same = c.in_ok-days.ensures.reads.same clean_mid in
    let days =
    subst (λ l. HoldsRows day_table l old.now.trees) (sym c.deref.ensures.value)
    (c.in_ok-days.ensures.list known clean_mid) in
    let listed =
    subst (λ l. HoldsRows item_table l mid.now.trees) (sym c.deref-2.ensures.value)
    (c.in_ok-items.ensures.list (known_after old mid same early known) clean) in
    let items = subst (λ (d : Database). HoldsRows item_table c.deref-2.result.now d.trees) same.0.now_is listed in
    refused_only c.days_of.result c.days_of.ensures.fault
    (λ never fit also makes. never
    (subst (MakeDays c.args.channels.now)
    (same_days old.now.trees c.deref.result.now c.deref-2.result.now days items) makes))

pub returns-in_err-items-clause-ours : goal.returns-in_err-items-clause-ours
returns-in_err-items-clause-ours g c known clean =
    let old = inside g.S.Store c.args.tx.now in
    let mid = inside g.S.Store c.all_rows.new.tx in
    let clean_mid : HasCleanDisk mid = omega (arith, clean, c.rows_by_channel.ensures.reads.survives.clean) in
    let early : HasCleanDisk old = omega (arith, clean_mid, c.all_rows.ensures.reads.survives.clean) in
    let same = c.in_ok-days.ensures.reads.same clean_mid in
    handed_on _ c.in_err-items.field-0.0 c.from_residual-in_err-items.result c.from_residual-in_err-items.ensures.1
    (λ is fit also makes. c.in_err-items.ensures.ours (known_after old mid same early known) clean is
    (subst (λ (d : Database). HoldsFitting item_table item_fits d.trees) (sym same.0.now_is) also)
    (subst (λ (d : Database). ArePlanned (λ (r : ℕ × ItemRow). r.0) c.args.channels.now (rows_in item_table d.trees))
    (sym same.0.now_is) (items_planned c.args.channels.now (day_rows_in old.now.trees) makes)))
