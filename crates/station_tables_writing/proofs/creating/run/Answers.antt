-- `run`: runs a text.
use Rattle.std.proofs.Common.{[]}
use Rattle.station_tables_records.proofs.InsideLemmas.{Executed, writes_inside, made_inside}
use Rattle.station_tables_writing.proofs.creating.run.Goals as goal

pub returns : goal.returns
returns g c =
    let ran = c.execute.ensures in
    let call : Executed g.S.Store c.args.tx.now c.execute.new.self c.args.text.now [] c.execute.result =
    record { same_reference = ran.same_reference; ended = ran.ended; runs = ran.runs; survives = ran.survives } in
    record {
      writes = writes_inside _ _ _ _ _ call;
      ran =
          λ clean. made_inside _ _ _ _ _ call clean
          (λ early held count ran. record { was_clean = early; count = count; ran = ran });
      ended = λ idle. (ran.ended idle).0;
      runs = ran.runs;
    }
