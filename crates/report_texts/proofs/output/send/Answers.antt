-- `send`: writes all the bytes, and flushes.
use Rattle.std.proofs.Common.{arith}
use Rattle.report_texts.proofs.PartLemmas.{rest_appended}
use Rattle.report_texts.proofs.output.send.Goals as goal

pub loop-sent-preserved : goal.loop-sent-preserved
loop-sent-preserved g c =
    let before = c.loop-sent.invariant in
    let taken = c.in_ok-sent.ensures.ok in
    record {
      within = omega arith;
      written =
          rest_appended _ _ _ c.args.bytes.now c.loop-sent.sent c.in_ok-sent.field-0 before.written taken.2;
    }
