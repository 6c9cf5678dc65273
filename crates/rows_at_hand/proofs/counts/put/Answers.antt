-- `put`: this is told of a day, in the place of what was, or in the order of the days.
use Rattle.std.proofs.Common.{◌∙◌, ap, sym}
use Rattle.std.specs.Prelude.{slice_get}
use Rattle.std.specs.List.{position_or_len}
use Rattle.rows_at_hand.specs.Counted.{is_told_at}
use Rattle.rows_at_hand.proofs.PlaceLemmas.{insert_is, is_from, set_is}
use Rattle.rows_at_hand.proofs.counts.put.Goals as goal

pub returns-then-is_told_at : goal.returns-then-is_told_at
returns-then-is_told_at c =
    set_is c.args.day c.args.counts.now.items c.place_of-place.result
    (c.place_of-place.ensures.place ∙ ap (position_or_len (is_from c.args.day)) c.deref.ensures.value)
    (ap (λ l. is_told_at c.args.day.number (slice_get l c.place_of-place.result)) (sym c.deref-2.ensures.value)
    ∙ sym c.is_told_at.ensures.day ∙ c.if-is_told_at.true)

pub returns-in_ok-insert : goal.returns-in_ok-insert
returns-in_ok-insert c =
    c.in_ok-insert.ensures.items
    ∙ insert_is c.args.day c.args.counts.now.items c.place_of-place.result
    (c.place_of-place.ensures.place ∙ ap (position_or_len (is_from c.args.day)) c.deref.ensures.value)
    (ap (λ l. is_told_at c.args.day.number (slice_get l c.place_of-place.result)) (sym c.deref-2.ensures.value)
    ∙ sym c.is_told_at.ensures.day ∙ c.if-is_told_at.false)
