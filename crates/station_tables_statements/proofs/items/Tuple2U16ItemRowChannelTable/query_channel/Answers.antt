-- `query_channel`: the rows of a channel, by their keys, each with its rowid first.
use Rattle.std.proofs.Common.{subst}
use Rattle.sqlite.specs.Values.{bound}
use Rattle.station_tables_records.proofs.InsideLemmas.{Queried, reads_inside, shown_inside, failed_inside}
use Rattle.station_tables_statements.proofs.PartTexts.{channel_items_text}
use Rattle.station_tables_statements.proofs.ByChannel.{items_by_channel}
use Rattle.station_tables_statements.proofs.items.Tuple2U16ItemRowChannelTable.query_channel.Goals as goal

pub returns : goal.returns
returns g c =
    let e = c.query_all.ensures in
    let asked : Queried g.S.Store c.args.tx.now c.query_all.new.self channel_items_text (bound c.of_channel.result)
    (λ v. v.items) c.query_all.result =
    record { same_reference = e.same_reference; ok = e.ok; err = e.err; survives = e.survives } in
    let call =
    subst
    (λ ps. Queried g.S.Store c.args.tx.now c.query_all.new.self channel_items_text ps (λ v. v.items)
    c.query_all.result) c.of_channel.ensures asked in
    record {
      reads = reads_inside _ _ _ _ _ call items_by_channel.reads;
      shown =
          λ known clean. shown_inside _ _ _ _ _ call clean
          (λ early held rows shown. items_by_channel.shows _ _ (known early held) c.args.channel rows shown);
      short =
          λ known clean. failed_inside _ _ _ _ _ call clean
          (λ early. items_by_channel.fails _ _ (known early) c.args.channel);
    }
