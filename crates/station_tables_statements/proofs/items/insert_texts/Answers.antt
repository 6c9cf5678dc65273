-- `insert_texts`: adds an item whose source and kind have these texts.
use Rattle.std.proofs.Common.{subst}
use Rattle.station_tables_records.proofs.InsideLemmas.{Executed, writes_inside, made_inside}
use Rattle.station_tables_records.specs.declared.day_rows.ItemRow.{ItemRow}
use Rattle.station_tables_records.proofs.DayTexts.{insert_item_text}
use Rattle.station_tables_records.specs.ItemRows.{item_row}
use Rattle.station_tables_records.proofs.DayLemmas.{inserts_item}
use Rattle.station_tables_statements.proofs.items.insert_texts.Goals as goal

pub returns : goal.returns
returns g c =
    let row : ItemRow = record { day = c.args.day; item = c.args.item.now } in
    let call : Executed g.S.Store c.args.tx.now c.execute.new.self insert_item_text (item_row (c.args.channel, row))
    c.execute.result =
    subst (λ params. Executed g.S.Store c.args.tx.now c.execute.new.self insert_item_text params c.execute.result)
    (c.item_values.ensures c.requires.source c.requires.kind)
    (record {
      same_reference = c.execute.ensures.same_reference;
      ended = c.execute.ensures.ended;
      runs =
          c.execute.ensures.runs;
      survives = c.execute.ensures.survives;
    }) in record {
      writes = writes_inside _ _ _ _ _ call;
      makes =
          λ texts fresh days clean. made_inside _ _ _ _ _ call clean
          (λ early held count ran. inserts_item _ _ (days early held) (c.args.channel, row) count (texts early held)
          (fresh early held) ran);
    }
