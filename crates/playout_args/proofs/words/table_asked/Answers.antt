-- `table_asked`: what the word `table` asks for.
use Rattle.clap.specs.Words.{found_of, rows_of}
use Rattle.playout_args.proofs.AskLemmas.{no_table}
use Rattle.playout_args.proofs.words.table_asked.Goals as goal

pub returns-in_default-number_in-clause-none : goal.returns-in_default-number_in-clause-none
returns-in_default-number_in-clause-none c =
    no_table (rows_of (found_of c.args.found.now))
    (λ file channel table of says least most is. c.in_default-number_in.ensures.none channel says least most)
