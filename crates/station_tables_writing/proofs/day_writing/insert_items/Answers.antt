-- `insert_items`: adds items of a day, whose numbers are new in it.
use Rattle.std.proofs.Common.{◌≡◌, ◌+◌, true, take, suc, sym, ap, ◌∙◌, subst, subst₂, arith}
use Rattle.sqlite_keyed.specs.Lists.{insert_sorted}
use Rattle.playlist_core.specs.declared.item.Item.{Item}
use Rattle.station_tables_records.specs.Inside.{inside}
use Rattle.station_tables_records.specs.MadeDays.{DaySet, item_cmp, has_texts, LacksItem}
use Rattle.station_tables_records.specs.TablePairs.{on_items}
use Rattle.station_tables_records.proofs.Turns.{with_items}
use Rattle.station_tables_statements.specs.DayCalls.{days_in, AreNewNow}
use Rattle.station_tables_writing.proofs.ItemLemmas.{next_in, next_is_new, passed_at}
use Rattle.station_tables_writing.proofs.DayWriteLemmas.{Turned, next_turned, none_in}
use Rattle.station_tables_writing.proofs.day_writing.insert_items.Goals as goal

pub loop-item-preserved : goal.loop-item-preserved
loop-item-preserved g c =
    let ch = c.args.channel in
    let day = c.args.day in
    let items = c.args.items.now in
    let old = inside g.S.Store c.args.tx.now in
    let mid = inside g.S.Store c.loop-item.tx in
    let i = c.loop-item.item-index in
    let x : Item = c.item-item.result in
    let Premise : Type 0 = AreNewNow ch day items old in
    let first : DaySet → DaySet = on_items (with_items ch day (take i items)) in
    let step : DaySet → DaySet = on_items (insert_sorted item_cmp (ch, record { day = day; item = x })) in
    let both : ◌≡◌ {A = DaySet → DaySet} (λ rows. step (first rows))
    (on_items (with_items ch day (take (suc i) items))) =
    λ j rows. record rows {
      items =
          (ap
          (λ (y : Item). insert_sorted item_cmp (ch, record { day = day; item = y })
          (with_items ch day (take i items) rows.items)) c.item-item.is
          ∙ next_in ch day items rows.items i x c.loop-item-test.true) j;
    } in
    let same : suc i ≡ i + 1 = omega arith in
    subst
    (λ m. Turned g.S.Store Premise (λ l. on_items (with_items ch day l)) (take m items) c.args.tx.now
    c.insert_item.new.tx) same
    (next_turned g.S.Store Premise (λ l. on_items (with_items ch day l)) items i c.loop-item-test.true step
    c.args.tx.now c.loop-item.tx c.insert_item.new.tx both (none_in ch day) c.loop-item.invariant
    c.in_ok-insert_item.ensures.writes
    (λ given seen early. c.in_ok-insert_item.ensures.makes
    (λ clean_then opened. let so = seen early opened in
    subst (λ y. has_texts y ≡ true) (sym c.item-item.is)
    (passed_at has_texts items i x c.loop-item-test.true (given early so.1).0))
    (λ clean_then opened.
    let so = seen early opened in
    subst₂ (λ (y : Item) rows. LacksItem ch day y.n rows) (sym c.item-item.is) (sym (ap (λ (s : DaySet). s.items) so.0))
    (next_is_new ch day items (days_in old).items i x c.loop-item-test.true (given early so.1).1))))
