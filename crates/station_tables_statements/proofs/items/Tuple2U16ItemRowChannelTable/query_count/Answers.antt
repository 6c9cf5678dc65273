-- `query_count`: a row with the number of rows.
use Rattle.std.proofs.Common.{[]}
use Rattle.station_tables_records.proofs.InsideLemmas.{Queried, reads_inside, shown_inside, failed_inside}
use Rattle.station_tables_statements.proofs.PartTexts.{count_items_text}
use Rattle.station_tables_statements.proofs.ByChannel.{items_by_channel}
use Rattle.station_tables_statements.proofs.items.Tuple2U16ItemRowChannelTable.query_count.Goals as goal

pub returns : goal.returns
returns g c =
    let e = c.query_all.ensures in
    let call : Queried g.S.Store c.args.tx.now c.query_all.new.self count_items_text [] (λ v. v.items)
    c.query_all.result =
    record { same_reference = e.same_reference; ok = e.ok; err = e.err; survives = e.survives } in
    record {
      reads = reads_inside _ _ _ _ _ call items_by_channel.count_reads;
      shown =
          λ known clean. shown_inside _ _ _ _ _ call clean
          (λ early held rows shown. items_by_channel.counts _ _ (known early held) rows shown);
      short =
          λ known clean. failed_inside _ _ _ _ _ call clean (λ early. items_by_channel.count_fails _ _ (known early));
    }
