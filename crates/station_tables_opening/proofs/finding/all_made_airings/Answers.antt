-- `all_made_airings`: what was aired of the days of these channels, which the rows of batches and of their lines make.
use Rattle.std.proofs.Common.{ℕ, sym, subst, arith}
use Rattle.sqlite.specs.Effect.{Database}
use Rattle.sqlite.specs.State.{HasCleanDisk}
use Rattle.station_tables_records.specs.Inside.{inside}
use Rattle.station_tables_records.specs.Table.{HoldsRows}
use Rattle.station_tables_records.specs.MadeAirings.{MakeAirings}
use Rattle.station_tables_records.specs.BatchRows.{batch_table}
use Rattle.station_tables_records.specs.LineRows.{line_table}
use Rattle.station_tables_records.proofs.MadeLemmas.{handed_on}
use Rattle.station_tables_opening.proofs.FindLemmas.{refused_only, same_aired, known_after}
use Rattle.station_tables_records.specs.Table.{HoldsFitting, rows_in}
use Rattle.station_tables_records.specs.LineRows.{line_fits}
use Rattle.station_tables_records.specs.TablePairs.{aired_rows_in}
use Rattle.station_tables_records.specs.declared.aired_rows.AiredLine.{AiredLine}
use Rattle.station_tables_opening.specs.Parts.{ArePlanned}
use Rattle.station_tables_opening.proofs.PartLemmas.{lines_planned}
use Rattle.station_tables_opening.proofs.finding.all_made_airings.Goals as goal

pub returns-clause-ours : goal.returns-clause-ours
returns-clause-ours g c known clean =
    let old = inside g.S.Store c.args.tx.now in
    let mid = inside g.S.Store c.all_rows.new.tx in
    let clean_mid : HasCleanDisk mid = omega (arith, clean, c.rows_by_channel.ensures.reads.survives.clean) in
    let early : HasCleanDisk old = omega (arith, clean_mid, c.all_rows.ensures.reads.survives.clean) in
    let same = c.in_ok-batches.ensures.reads.same clean_mid in
    let batches =
    subst (λ l. HoldsRows batch_table l old.now.trees) (sym c.deref.ensures.value)
    (c.in_ok-batches.ensures.list known clean_mid) in
    let listed =
    subst (λ l. HoldsRows line_table l mid.now.trees) (sym c.deref-2.ensures.value)
    (c.in_ok-lines.ensures.list (known_after old mid same early known) clean) in
    let lines = subst (λ (d : Database). HoldsRows line_table c.deref-2.result.now d.trees) same.0.now_is listed in
    refused_only c.airings_of.result c.airings_of.ensures.fault
    (λ never fit also makes. never
    (subst (MakeAirings c.args.channels.now)
    (same_aired old.now.trees c.deref.result.now c.deref-2.result.now batches lines) makes))

pub returns-in_err-lines-clause-ours : goal.returns-in_err-lines-clause-ours
returns-in_err-lines-clause-ours g c known clean =
    let old = inside g.S.Store c.args.tx.now in
    let mid = inside g.S.Store c.all_rows.new.tx in
    let clean_mid : HasCleanDisk mid = omega (arith, clean, c.rows_by_channel.ensures.reads.survives.clean) in
    let early : HasCleanDisk old = omega (arith, clean_mid, c.all_rows.ensures.reads.survives.clean) in
    let same = c.in_ok-batches.ensures.reads.same clean_mid in
    handed_on _ c.in_err-lines.field-0.0 c.from_residual-in_err-lines.result c.from_residual-in_err-lines.ensures.1
    (λ is fit also makes. c.in_err-lines.ensures.ours (known_after old mid same early known) clean is
    (subst (λ (d : Database). HoldsFitting line_table line_fits d.trees) (sym same.0.now_is) also)
    (subst (λ (d : Database). ArePlanned (λ (r : ℕ × AiredLine). r.0) c.args.channels.now (rows_in line_table d.trees))
    (sym same.0.now_is) (lines_planned c.args.channels.now (aired_rows_in old.now.trees) makes)))
