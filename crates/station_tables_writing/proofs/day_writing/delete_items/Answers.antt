-- `delete_items`: takes items of a day out.
use Rattle.std.proofs.Common.{◌≡◌, ◌+◌, take, suc, ap, ◌∙◌, subst, arith}
use Rattle.playlist_core.specs.declared.item.Item.{Item}
use Rattle.sqlite_keyed.specs.Lists.{delete_where}
use Rattle.station_tables_records.specs.MadeDays.{DaySet, is_item_of}
use Rattle.station_tables_records.specs.TablePairs.{on_items}
use Rattle.station_tables_records.proofs.Turns.{without_items}
use Rattle.station_tables_writing.proofs.ItemLemmas.{next_out}
use Rattle.station_tables_writing.proofs.DayWriteLemmas.{Turned, next_turned, none_out}
use Rattle.station_tables_writing.proofs.day_writing.delete_items.Goals as goal

pub loop-item-preserved : goal.loop-item-preserved
loop-item-preserved g c =
    let ch = c.args.channel in
    let day = c.args.day in
    let items = c.args.items.now in
    let i = c.loop-item.item-index in
    let x : Item = c.item-item.result in
    let first : DaySet → DaySet = on_items (without_items ch day (take i items)) in
    let step : DaySet → DaySet = on_items (delete_where (is_item_of ch day x.n)) in
    let both : ◌≡◌ {A = DaySet → DaySet} (λ rows. step (first rows))
    (on_items (without_items ch day (take (suc i) items))) =
    λ j rows. record rows {
      items =
          (ap (λ (y : Item). delete_where (is_item_of ch day y.n) (without_items ch day (take i items) rows.items))
          c.item-item.is ∙ next_out ch day items rows.items i x c.loop-item-test.true) j;
    } in
    let same : suc i ≡ i + 1 = omega arith in
    subst
    (λ m. Turned g.S.Store (Unit {0}) (λ l. on_items (without_items ch day l)) (take m items) c.args.tx.now
    c.delete_item.new.tx) same
    (next_turned g.S.Store (Unit {0}) (λ l. on_items (without_items ch day l)) items i c.loop-item-test.true step
    c.args.tx.now c.loop-item.tx c.delete_item.new.tx both (none_out ch day) c.loop-item.invariant
    c.in_ok-delete_item.ensures.writes
    (λ given seen early. c.in_ok-delete_item.ensures.makes))
