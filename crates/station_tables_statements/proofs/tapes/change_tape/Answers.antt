-- `change_tape`: puts a tape in the place of the one with its number.
use Rattle.std.proofs.Common.{ℕ, subst}
use Rattle.vault_core.specs.declared.tape.Tape.{Tape}
use Rattle.station_tables_records.proofs.InsideLemmas.{Executed, writes_inside, made_inside}
use Rattle.station_tables_records.proofs.Texts.{change_tape_text}
use Rattle.station_tables_records.specs.TapeRows.{tape_row}
use Rattle.station_tables_statements.proofs.StatementLemmas.{sets_tape}
use Rattle.station_tables_statements.proofs.tapes.change_tape.Goals as goal

pub returns : goal.returns
returns g c =
    let t : ℕ × Tape = (c.args.channel, c.args.tape.now) in
    let call : Executed g.S.Store c.args.tx.now c.execute.new.self change_tape_text (tape_row t) c.execute.result =
    subst (λ params. Executed g.S.Store c.args.tx.now c.execute.new.self change_tape_text params c.execute.result)
    c.tape_values.ensures
    (record {
      same_reference = c.execute.ensures.same_reference;
      ended = c.execute.ensures.ended;
      runs =
          c.execute.ensures.runs;
      survives = c.execute.ensures.survives;
    }) in record {
      writes = writes_inside _ _ _ _ _ call;
      makes =
          λ centre clean. made_inside _ _ _ _ _ call clean
          (λ early held count ran. sets_tape _ _ (centre early held) t count ran);
    }
