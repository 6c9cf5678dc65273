-- The offers that answer a question, with their windows.
use Rattle.std.proofs.Common.{◌∙◌}
use Rattle.std.proofs.lemmas.Result.{IfOk-weaker}
use Rattle.station_tables_records.specs.Inside.{inside}
use Rattle.station_tables_records.proofs.OfferRowLemmas.{offer_rows}
use Rattle.station_tables_records.proofs.OfferTextLemmas.{offer_texts}
use Rattle.station_tables_statements.proofs.FoundLemmas.{reads_each, question_found}
use Rattle.station_tables_statements.proofs.LookLemmas.{was_clean, look_after, read_is_look}
use Rattle.station_tables_statements.proofs.SameLemmas.{centre_after}
use Rattle.station_tables_statements.proofs.WindowLemmas.{answers_with_windows}
use Rattle.station_tables_statements.proofs.offers.OfferNumberedRow.find.Goals as goal

pub find_asked-requires : goal.find_asked-requires
find_asked-requires g c = record { reading = reads_each offer_rows offer_texts.asks c.args.question }

pub returns-clause-reads : goal.returns-clause-reads
returns-clause-reads g c = look_after g.S.Store _ _ _ _ _ c.in_ok-offers.ensures.reads c.with_windows.ensures.looks

pub returns-clause-rows : goal.returns-clause-rows
returns-clause-rows g c centre clean =
    let old = inside g.S.Store c.args.tx.now in
    let mid = inside g.S.Store c.find_asked.new.tx in
    let clean_mid = was_clean g.S.Store _ _ _ c.with_windows.ensures.looks clean in
    let early = was_clean g.S.Store _ _ _ (read_is_look g.S.Store _ _ _ c.in_ok-offers.ensures.reads) clean_mid in
    let same = c.in_ok-offers.ensures.reads.same clean_mid in
    let found =
    question_found offer_rows offer_texts.asks g.S.Store _ _ c.in_ok-offers.ensures.reads clean_mid c.args.question
    c.args.channel (λ then held. let is = centre then held in (is.schema, is.offers))
    (c.in_ok-offers.ensures.rows clean_mid) in
    IfOk-weaker c.with_windows.result _ _
    (λ made is. answers_with_windows c.args.question c.args.channel old mid same c.deref.result.now made.items
    (c.deref.ensures.value ∙ found) is)
    (c.with_windows.ensures.offers (centre_after old mid same early centre) clean)
