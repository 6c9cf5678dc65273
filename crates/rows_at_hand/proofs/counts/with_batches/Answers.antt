-- `with_batches`: tells so many batches of the day of this number.
use Rattle.std.proofs.Common.{◌∙◌, ap, map, arith}
use Rattle.std.proofs.lemmas.List.{take_all}
use Rattle.rows_at_hand.specs.Counted.{with_batches}
use Rattle.rows_at_hand.proofs.CountedLemmas.{told_more}
use Rattle.rows_at_hand.proofs.counts.with_batches.Goals as goal

pub loop-day-preserved : goal.loop-day-preserved
loop-day-preserved c =
    told_more (with_batches c.args.number c.args.batches) c.args.counts.now c.loop-day.day-index _ c.loop-day.told.items
    c.push.new.self.items _ (omega arith) c.loop-day.invariant c.told_with.ensures c.in_ok-push.ensures.items

pub returns : goal.returns
returns c =
    c.loop-day.invariant
    ∙ ap (map (with_batches c.args.number c.args.batches)) (take_all c.loop-day.day-index c.args.counts.now (omega arith))
