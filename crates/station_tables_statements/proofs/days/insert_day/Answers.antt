-- `insert_day`: adds a day of this channel, 1 to 999, whose number is new in it.
use Rattle.std.proofs.Common.{subst}
use Rattle.station_tables_records.proofs.InsideLemmas.{Executed, writes_inside, made_inside}
use Rattle.station_tables_records.proofs.DayTexts.{insert_day_text}
use Rattle.station_tables_records.specs.DayRows.{day_row}
use Rattle.station_tables_records.proofs.DayLemmas.{inserts_day}
use Rattle.station_tables_statements.proofs.days.insert_day.Goals as goal

pub returns : goal.returns
returns g c =
    let call : Executed g.S.Store c.args.tx.now c.execute.new.self insert_day_text
    (day_row (c.args.channel, c.args.row)) c.execute.result =
    subst (λ params. Executed g.S.Store c.args.tx.now c.execute.new.self insert_day_text params c.execute.result)
    c.day_values.ensures
    (record {
      same_reference = c.execute.ensures.same_reference;
      ended = c.execute.ensures.ended;
      runs =
          c.execute.ensures.runs;
      survives = c.execute.ensures.survives;
    }) in record {
      writes = writes_inside _ _ _ _ _ call;
      makes =
          λ fresh days clean. made_inside _ _ _ _ _ call clean
          (λ early held count ran. inserts_day _ _ (days early held) (c.args.channel, c.args.row) count
          (fresh early held) ran);
    }
