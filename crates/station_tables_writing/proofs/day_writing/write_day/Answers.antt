-- `write_day`: writes a change of a day over the rows of the day that it changes.
use Rattle.std.proofs.Common.{◌≡◌, ℕ, List, sym, ap, ◌∙◌, subst, subst₂, arith}
use Rattle.std.specs.Prelude.{◌||◌}
use Rattle.sqlite.specs.State.{HasCleanDisk}
use Rattle.station_tables_records.specs.Inside.{inside}
use Rattle.playlist_core.specs.declared.item.Item.{Item}
use Rattle.playlist_core.specs.Day.{Day, KeepsDayRules}
use Rattle.channel_view_model.specs.Rules.{is_there}
use Rattle.station_tables_records.specs.MadeDays.{DaySet, put_day, row_of_day, has_texts}
use Rattle.station_tables_records.proofs.Turns.{with_items, without_items}
use Rattle.station_tables_records.specs.TwoTables.{HasBothNow}
use Rattle.station_tables_records.specs.TablePairs.{day_tables, on_days, on_items}
use Rattle.station_tables_statements.specs.DayCalls.{AreNewNow, ChangesWhere, has_some, is_row_written}
use Rattle.station_tables_writing.proofs.ItemLemmas.{open_before, days_after}
use Rattle.station_tables_writing.proofs.DayWriteLemmas.{on_weaker, where_ran, as_ran, ran_then, still_one, still_two}
use Rattle.station_tables_writing.proofs.DayWriteLemmas.{all_ran, items_left, row_is_there, texts_came, fresh_items}
use Rattle.station_tables_writing.proofs.DayWriteLemmas.{puts_day}
use Rattle.station_tables_writing.proofs.day_writing.write_day.Goals as goal

pub returns-clause-puts : goal.returns-clause-puts
returns-clause-puts g c texts stands from days clean =
    let first = c.args.tx.now in
    let begun = c.turn_day_row.new.tx in
    let mid = c.delete_items.new.tx in
    let last = c.insert_items.new.tx in
    let ch = c.args.channel in
    let change = c.args.change.now in
    let n = change.day.number in
    let rules : KeepsDayRules change.day = subst KeepsDayRules c.day-day.ensures c.keep_the_rules.ensures in
    let number : c.number.result ≡ n = c.number.ensures ∙ ap (λ (d : Day). d.number) c.day-day.ensures in
    let number_then : c.number-2.result ≡ n = c.number-2.ensures ∙ ap (λ (d : Day). d.number) c.day-day.ensures in
    let clean_mid : HasCleanDisk (inside g.S.Store mid) =
    omega (arith, c.insert_items.ensures.writes.survives.clean, clean) in
    let clean_begun : HasCleanDisk (inside g.S.Store begun) =
    omega (arith, c.delete_items.ensures.writes.survives.clean, clean_mid) in
    let early : HasCleanDisk (inside g.S.Store first) =
    omega (arith, c.turn_day_row.ensures.writes.survives.clean, clean_begun) in
    let written = is_row_written change in
    let put : DaySet → DaySet = on_days (put_day (is_there change.was) ch (row_of_day change.day)) in
    let less : DaySet → DaySet = on_items (without_items ch n change.deleted) in
    let more : DaySet → DaySet = on_items (with_items ch n change.inserted) in
    let one : ChangesWhere g.S.Store written put first begun =
    c.in_ok-turn_day_row.ensures.makes
    (λ clean_then opened. row_is_there ch change rules (inside g.S.Store first) (from clean_then opened)) days
    clean_begun in
    let two : ChangesWhere g.S.Store (has_some change.deleted) less begun mid =
    subst₂ (λ (m : ℕ) (l : List Item). ChangesWhere g.S.Store (has_some l) (on_items (without_items ch m l)) begun mid)
    number c.deleted.ensures
    (c.in_ok-delete_items.ensures.makes (days_after g.S.Store put first begun written one days) clean_mid) in
    let days_mid : HasBothNow day_tables (inside g.S.Store mid) =
    days_after g.S.Store less begun mid (has_some change.deleted) two
    (days_after g.S.Store put first begun written one days) in
    let both : ChangesWhere g.S.Store (written || has_some change.deleted)
    (λ rows. where_ran (has_some change.deleted) less (where_ran written put rows)) first mid =
    ran_then g.S.Store written (has_some change.deleted) (where_ran written put) less first begun mid
    (still_one written put) (as_ran g.S.Store written put first begun one) two in
    let fresh : AreNewNow ch n change.inserted (inside g.S.Store mid) =
    λ clean_then opened.
    let so =
    from early
    (open_before g.S.Store (λ rows. where_ran (has_some change.deleted) less (where_ran written put rows)) first mid
    (written || has_some change.deleted) both opened) in (
      texts_came ch change rules (inside g.S.Store first) so has_texts texts,
      fresh_items ch change rules (inside g.S.Store first) so (inside g.S.Store mid)
          (items_left g.S.Store ch n (put_day (is_there change.was) ch (row_of_day change.day)) written change.deleted
          first begun mid one two),
    ) in
    let fresh_then : AreNewNow ch c.number-2.result c.inserted.result.now (inside g.S.Store mid) =
    subst₂ (λ (m : ℕ) (l : List Item). AreNewNow ch m l (inside g.S.Store mid)) (sym number_then)
    (sym c.inserted.ensures) fresh in
    on_weaker c.insert_items.result
    (λ three.
    let whole =
    ran_then g.S.Store (written || has_some change.deleted) (has_some change.inserted)
    (λ rows. where_ran (has_some change.deleted) less (where_ran written put rows)) more first mid last
    (still_two written (has_some change.deleted) put less) both
    (subst₂ (λ (m : ℕ) (l : List Item). ChangesWhere g.S.Store (has_some l) (on_items (with_items ch m l)) mid last)
    number_then c.inserted.ensures three) in
    let ran = all_ran g.S.Store ch change first last whole in
    let so = from early ran.shown.was_open in
    puts_day ch change rules (inside g.S.Store first) so (days early ran.shown.was_open) stands (inside g.S.Store last)
    ran)
    (c.insert_items.ensures.makes fresh_then days_mid clean)
