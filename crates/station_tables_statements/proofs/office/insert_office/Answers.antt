-- `insert_office`: adds the one row of `office`, of version 2, to tables without a row.
use Rattle.std.proofs.Common.{[]}
use Rattle.station_tables_records.proofs.InsideLemmas.{Executed, writes_inside, made_inside}
use Rattle.station_tables_records.proofs.Texts.{insert_office_text}
use Rattle.station_tables_statements.proofs.StatementLemmas.{inserts_office}
use Rattle.station_tables_statements.proofs.office.insert_office.Goals as goal

pub returns : goal.returns
returns g c =
    let call : Executed g.S.Store c.args.tx.now c.execute.new.self insert_office_text [] c.execute.result =
    record {
      same_reference = c.execute.ensures.same_reference;
      ended = c.execute.ensures.ended;
      runs =
          c.execute.ensures.runs;
      survives = c.execute.ensures.survives;
    } in record {
      writes = writes_inside _ _ _ _ _ call;
      makes =
          λ bare clean. made_inside _ _ _ _ _ call clean
          (λ early held count ran. inserts_office _ _ count (bare early held) ran);
    }
