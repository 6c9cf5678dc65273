-- `delete_item`: takes an item out of a channel's day, by its number.
use Rattle.std.proofs.Common.{[], ◌∷◌, subst}
use Rattle.station_tables_records.proofs.InsideLemmas.{Executed, writes_inside, made_inside}
use Rattle.station_tables_records.specs.Values.{of_nat}
use Rattle.station_tables_records.proofs.DayTexts.{delete_item_text}
use Rattle.station_tables_records.proofs.DayLemmas.{deletes_item}
use Rattle.station_tables_statements.proofs.items.delete_item.Goals as goal

pub returns : goal.returns
returns g c =
    let call : Executed g.S.Store c.args.tx.now c.execute.new.self delete_item_text
    (of_nat c.args.channel ∷ of_nat c.args.day ∷ of_nat c.args.item ∷ []) c.execute.result =
    subst (λ params. Executed g.S.Store c.args.tx.now c.execute.new.self delete_item_text params c.execute.result)
    c.of_item.ensures
    (record {
      same_reference = c.execute.ensures.same_reference;
      ended = c.execute.ensures.ended;
      runs =
          c.execute.ensures.runs;
      survives = c.execute.ensures.survives;
    }) in record {
      writes = writes_inside _ _ _ _ _ call;
      makes =
          λ days clean. made_inside _ _ _ _ _ call clean
          (λ early held count ran. deletes_item _ _ (days early held) c.args.channel c.args.day c.args.item count ran);
    }
