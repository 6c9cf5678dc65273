-- `set_day`: the row in the place of the channel's of the same day, or in the order of the days.
use Rattle.std.proofs.Common.{◌≡◌, ◌∙◌, true, sym, subst}
use Rattle.channel_view_model.specs.Tables.{is_in_order}
use Rattle.channel_view_model.proofs.TableLemmas.{in_order-replace}
use Rattle.channel_view.proofs.DayPlaceLemmas.{day_set, day_inserted}
use Rattle.channel_view.proofs.mem_days.set_day.Goals as goal

pub returns-then-is_day_at-clause-ok : goal.returns-then-is_day_at-clause-ok
returns-then-is_day_at-clause-ok g c =
    day_set g.D.OfDay.day_of c.args.channel c.args.row.now c.args.table.now.items c.deref.result.now
    c.deref-2.result.now c.day.result c.day-2.result c.place_of_day-at.result c.in_ok-copy.copy
    c.in_ok-copy.ensures c.deref.ensures.value c.deref-2.ensures.value c.day.ensures c.day-2.ensures
    c.place_of_day-at.ensures.place
    c.index_mut.result.now (sym c.is_day_at.ensures.day ∙ c.if-is_day_at.true) c.index_mut.ensures.value

pub returns-in_ok-insert-clause-ok : goal.returns-in_ok-insert-clause-ok
returns-in_ok-insert-clause-ok g c =
    c.in_ok-insert.ensures.items
    ∙ day_inserted g.D.OfDay.day_of c.args.channel c.args.row.now c.args.table.now.items c.deref.result.now
    c.deref-2.result.now c.day.result c.day-2.result c.place_of_day-at.result c.in_ok-copy.copy
    c.in_ok-copy.ensures c.deref.ensures.value c.deref-2.ensures.value c.day.ensures c.day-2.ensures
    c.place_of_day-at.ensures.place
    (sym c.is_day_at.ensures.day ∙ c.if-is_day_at.false)

pub returns-then-is_day_at-clause-order : goal.returns-then-is_day_at-clause-order
returns-then-is_day_at-clause-order g c =
    subst (λ rows. is_in_order rows ≡ true) (sym (returns-then-is_day_at-clause-ok g c))
    (in_order-replace g.D.OfDay.day_of c.args.channel c.args.row.now c.args.table.now.items c.requires)

pub returns-in_ok-insert-clause-order : goal.returns-in_ok-insert-clause-order
returns-in_ok-insert-clause-order g c =
    subst (λ rows. is_in_order rows ≡ true) (sym (returns-in_ok-insert-clause-ok g c))
    (in_order-replace g.D.OfDay.day_of c.args.channel c.args.row.now c.args.table.now.items c.requires)
