-- The tapes that answer a question.
use Rattle.std.proofs.lemmas.Result.{IfOk-weaker}
use Rattle.station_tables_records.proofs.TapeRowLemmas.{tape_rows}
use Rattle.station_tables_records.proofs.TextLemmas.{tape_texts}
use Rattle.station_tables_statements.proofs.FoundLemmas.{reads_each, question_found}
use Rattle.station_tables_statements.proofs.tapes.TapeNumberedRow.find.Goals as goal

pub find_asked-requires : goal.find_asked-requires
find_asked-requires g c = record { reading = reads_each tape_rows tape_texts.asks c.args.question }

pub returns-clause-rows : goal.returns-clause-rows
returns-clause-rows g c centre clean =
    IfOk-weaker c.find_asked.result _ _
    (λ rows. question_found tape_rows tape_texts.asks g.S.Store _ _ c.find_asked.ensures.reads clean c.args.question
    c.args.channel (λ early held. let is = centre early held in (is.schema, is.tapes)))
    (c.find_asked.ensures.rows clean)
