-- `insert_row`: adds the row of an offer.
use Rattle.std.proofs.Common.{subst}
use Rattle.station_tables_records.proofs.InsideLemmas.{Executed, writes_inside, made_inside}
use Rattle.station_tables_records.proofs.Texts.{insert_offer_text}
use Rattle.station_tables_records.specs.OfferRows.{offer_row}
use Rattle.station_tables_statements.proofs.OfferLemmas.{puts_offer}
use Rattle.station_tables_statements.proofs.offers.insert_row.Goals as goal

pub returns : goal.returns
returns g c =
    let call : Executed g.S.Store c.args.tx.now c.execute.new.self insert_offer_text
    (offer_row (c.args.channel, c.args.offer.now)) c.execute.result =
    subst (λ params. Executed g.S.Store c.args.tx.now c.execute.new.self insert_offer_text params c.execute.result)
    (c.offer_values.ensures c.to_bytes-umid.ensures)
    (record {
      same_reference = c.execute.ensures.same_reference;
      ended = c.execute.ensures.ended;
      runs =
          c.execute.ensures.runs;
      survives = c.execute.ensures.survives;
    }) in record {
      writes = writes_inside _ _ _ _ _ call;
      makes =
          λ fresh has clean. made_inside _ _ _ _ _ call clean
          (λ early held count ran. puts_offer _ _ (has early held).schema (has early held).first
          (c.args.channel, c.args.offer.now) count (fresh early held) ran);
    }
