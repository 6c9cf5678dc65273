-- `insert_channel`: adds a channel of the plan, whose number is new, while no channel has a day and nothing was aired.
use Rattle.std.proofs.Common.{subst}
use Rattle.station_tables_records.proofs.InsideLemmas.{Executed, writes_inside, made_inside}
use Rattle.station_tables_records.proofs.Texts.{insert_channel_text}
use Rattle.station_tables_records.specs.ChannelRows.{channel_row}
use Rattle.station_tables_statements.proofs.StatementLemmas.{inserts_channel}
use Rattle.station_tables_statements.proofs.plan.insert_channel.Goals as goal

pub returns : goal.returns
returns g c =
    let call : Executed g.S.Store c.args.tx.now c.execute.new.self insert_channel_text (channel_row c.args.plan.now)
    c.execute.result =
    subst
    (λ params. Executed g.S.Store c.args.tx.now c.execute.new.self insert_channel_text params c.execute.result)
    c.channel_values.ensures
    (record {
      same_reference = c.execute.ensures.same_reference;
      ended = c.execute.ensures.ended;
      runs =
          c.execute.ensures.runs;
      survives = c.execute.ensures.survives;
    }) in record {
      writes = writes_inside _ _ _ _ _ call;
      makes =
          λ none fresh centre clean. made_inside _ _ _ _ _ call clean
          (λ early held count ran. inserts_channel _ _ (centre early held) c.args.plan.now count (none early held).0
          (none early held).1 (fresh early held) ran);
    }
