-- `set_sealed`: sets whether a channel's day of this number is sealed.
use Rattle.std.proofs.Common.{subst}
use Rattle.station_tables_records.proofs.InsideLemmas.{Executed, writes_inside, made_inside}
use Rattle.station_tables_records.proofs.DayTexts.{set_sealed_text}
use Rattle.station_tables_records.specs.DayRows.{day_row}
use Rattle.station_tables_records.proofs.DayLemmas.{seals_day}
use Rattle.station_tables_statements.proofs.days.set_sealed.Goals as goal

pub returns : goal.returns
returns g c =
    let call : Executed g.S.Store c.args.tx.now c.execute.new.self set_sealed_text
    (day_row (c.args.channel, c.args.row)) c.execute.result =
    subst (λ params. Executed g.S.Store c.args.tx.now c.execute.new.self set_sealed_text params c.execute.result)
    c.day_values.ensures
    (record {
      same_reference = c.execute.ensures.same_reference;
      ended = c.execute.ensures.ended;
      runs =
          c.execute.ensures.runs;
      survives = c.execute.ensures.survives;
    }) in record {
      writes = writes_inside _ _ _ _ _ call;
      makes =
          λ days clean. made_inside _ _ _ _ _ call clean
          (λ early held count ran. seals_day _ _ (days early held) c.args.channel c.args.row.number c.args.row.sealed
          count ran);
    }
