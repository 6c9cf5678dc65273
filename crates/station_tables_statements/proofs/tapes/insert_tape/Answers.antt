-- `insert_tape`: adds a tape of this channel, 1 to 999, whose number is new in it.
use Rattle.std.proofs.Common.{subst}
use Rattle.station_tables_records.proofs.InsideLemmas.{Executed, writes_inside, made_inside}
use Rattle.station_tables_records.proofs.Texts.{insert_tape_text}
use Rattle.station_tables_records.specs.TapeRows.{tape_row}
use Rattle.station_tables_statements.proofs.StatementLemmas.{inserts_tape}
use Rattle.station_tables_statements.proofs.tapes.insert_tape.Goals as goal

pub returns : goal.returns
returns g c =
    let call : Executed g.S.Store c.args.tx.now c.execute.new.self insert_tape_text
    (tape_row (c.args.channel, c.args.tape.now)) c.execute.result =
    subst (λ params. Executed g.S.Store c.args.tx.now c.execute.new.self insert_tape_text params c.execute.result)
    c.tape_values.ensures
    (record {
      same_reference = c.execute.ensures.same_reference;
      ended = c.execute.ensures.ended;
      runs =
          c.execute.ensures.runs;
      survives = c.execute.ensures.survives;
    }) in record {
      writes = writes_inside _ _ _ _ _ call;
      makes =
          λ fresh centre clean. made_inside _ _ _ _ _ call clean
          (λ early held count ran. inserts_tape _ _ (centre early held) (c.args.channel, c.args.tape.now) count
          (fresh early held) ran);
    }
