-- `insert_batch`: adds a batch of a channel's day, 1 to 99,999, whose number is new in it.
use Rattle.std.proofs.Common.{subst}
use Rattle.station_tables_records.proofs.InsideLemmas.{Executed, writes_inside, made_inside}
use Rattle.station_tables_records.proofs.AiredTexts.{insert_batch_text}
use Rattle.station_tables_records.specs.BatchRows.{batch_row}
use Rattle.station_tables_records.proofs.AiredLemmas.{inserts_batch}
use Rattle.station_tables_statements.proofs.batches.insert_batch.Goals as goal

pub returns : goal.returns
returns g c =
    let call : Executed g.S.Store c.args.tx.now c.execute.new.self insert_batch_text
    (batch_row (c.args.channel, c.args.batch)) c.execute.result =
    subst (λ params. Executed g.S.Store c.args.tx.now c.execute.new.self insert_batch_text params c.execute.result)
    c.batch_values.ensures
    (record {
      same_reference = c.execute.ensures.same_reference;
      ended = c.execute.ensures.ended;
      runs =
          c.execute.ensures.runs;
      survives = c.execute.ensures.survives;
    }) in record {
      writes = writes_inside _ _ _ _ _ call;
      makes =
          λ fresh airings clean. made_inside _ _ _ _ _ call clean
          (λ early held count ran. inserts_batch _ _ (airings early held) (c.args.channel, c.args.batch) count
          (fresh early held) ran);
    }
