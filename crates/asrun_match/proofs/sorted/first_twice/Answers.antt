-- `first_twice`: the first frame that rows, one after another, air again, beside those that were aired.
use Rattle.std.proofs.Common.{◌∙◌, Some, Ok, sym, ap}
use Rattle.asrun_match.proofs.TwiceLemmas.{sooner_none, turn, turned}
use Rattle.asrun_match.proofs.sorted.first_twice.Goals as goal

pub returns-in-Some : goal.returns-in-Some
returns-in-Some c =
    sym (turn c.args.frames c.loop-row.earlier c.args.taken.now c.args.rows.now c.row-item.result c.loop-row.row-index
    c.loop-row.invariant.frames c.requires.fit c.loop-row-test.true c.row-item.is
    c.first_taken-of_day.result c.in_ok-of_batch.of_batch (Some c.in-Some.frame) c.first_taken-of_day.ensures
    c.requires.apart c.in_ok-of_batch.ensures.twice (sym c.sooner.ensures ∙ c.in-Some.is))
    ∙ c.loop-row.invariant.rest

pub loop-row-preserved : goal.loop-row-preserved
loop-row-preserved c =
    let none = sym c.sooner.ensures ∙ c.in_default.is in
    let added = c.in_ok-of_batch.was ∙ ap Ok (sooner_none c.first_taken-of_day.result c.in_ok-of_batch.of_batch none) in
    record {
      rest =
          turned c.args.frames c.loop-row.earlier c.args.taken.now c.args.rows.now c.row-item.result
          c.loop-row.row-index c.loop-row.invariant.frames c.requires.fit c.loop-row-test.true c.row-item.is
          c.add.new.self.rows c.first_taken-of_day.result c.in_ok-of_batch.of_batch c.first_taken-of_day.ensures
          c.requires.apart c.in_ok-of_batch.ensures.twice none (c.add.ensures.rows added)
          ∙ c.loop-row.invariant.rest;
      frames = c.add.ensures.frames ∙ c.loop-row.invariant.frames;
    }
