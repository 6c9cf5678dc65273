-- `put_day_row`: adds the row of the day, or sets the state of the one that is there.
use Rattle.std.proofs.Common.{◌≡◌, true, false, ◌∙◌, sym, ap, subst, subst₂, OnOk}
use Rattle.channel_view_model.specs.Rules.{is_there}
use Rattle.station_tables_records.specs.Inside.{inside}
use Rattle.station_tables_records.specs.declared.day_rows.DayRow.{DayRow}
use Rattle.station_tables_records.specs.MadeDays.{put_day, row_of_day}
use Rattle.station_tables_records.specs.DayRows.{LacksDay}
use Rattle.station_tables_records.specs.TwoTables.{ChangesBoth}
use Rattle.station_tables_records.specs.TablePairs.{day_tables, on_days}
use Rattle.station_tables_statements.specs.DayCalls.{days_in}
use Rattle.station_tables_writing.proofs.DayWriteLemmas.{lacks_day}
use Rattle.station_tables_writing.proofs.day_writing.put_day_row.Goals as goal

pub returns-then-there-clause-makes : goal.returns-then-there-clause-makes
returns-then-there-clause-makes g c is days clean =
    let old = inside g.S.Store c.args.tx.now in
    let new = inside g.S.Store c.set_sealed.new.tx in
    let change = c.args.change.now in
    let there : is_there change.was ≡ true =
    sym (c.is_there-there.ensures ∙ ap is_there c.was.ensures) ∙ c.if-there.true in
    subst₂
    (λ b (r : DayRow). OnOk c.set_sealed.result
    (ChangesBoth day_tables (on_days (put_day b c.args.channel r)) old new)) (sym there)
    (c.row_of-row.ensures ∙ ap row_of_day c.day.ensures)
    (c.set_sealed.ensures.makes days clean)

pub returns-else-there-clause-makes : goal.returns-else-there-clause-makes
returns-else-there-clause-makes g c is days clean =
    let old = inside g.S.Store c.args.tx.now in
    let new = inside g.S.Store c.insert_day.new.tx in
    let ch = c.args.channel in
    let change = c.args.change.now in
    let there : is_there change.was ≡ false =
    sym (c.is_there-there.ensures ∙ ap is_there c.was.ensures) ∙ c.if-there.false in
    let row : c.row_of-row.result ≡ row_of_day change.day = c.row_of-row.ensures ∙ ap row_of_day c.day.ensures in
    subst₂ (λ b (r : DayRow). OnOk c.insert_day.result (ChangesBoth day_tables (on_days (put_day b ch r)) old new))
    (sym there) row
    (c.insert_day.ensures.makes
    (λ early held. subst (λ n. LacksDay ch n (days_in old).days) (ap (λ (r : DayRow). r.number) (sym row))
    (lacks_day ch change.day.number (days_in old).days (is early held ∙ there))) days clean)
