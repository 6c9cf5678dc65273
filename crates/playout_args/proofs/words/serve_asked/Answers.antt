-- `serve_asked`: what the word `serve` asks for.
use Rattle.std.proofs.Common.{arith}
use Rattle.clap.specs.Words.{found_of, rows_of}
use Rattle.playout_args.proofs.AskLemmas.{no_serve}
use Rattle.playout_args.proofs.words.serve_asked.Goals as goal

pub returns-in_default-number_in-clause-none : goal.returns-in_default-number_in-clause-none
returns-in_default-number_in-clause-none c =
    no_serve (rows_of (found_of c.args.found.now))
    (λ file port peers turns idle of says most p1 p2 p3 b d1 d2 d3. c.in_default-number_in.ensures.none port says
    (omega arith) most)

pub returns-in_default-number_in-2-clause-none : goal.returns-in_default-number_in-2-clause-none
returns-in_default-number_in-2-clause-none c =
    no_serve (rows_of (found_of c.args.found.now))
    (λ file port peers turns idle of a1 a2 says least most b d1 d2 d3. c.in_default-number_in-2.ensures.none peers
    says least most)

pub returns-in_default-number_in-3-clause-none : goal.returns-in_default-number_in-3-clause-none
returns-in_default-number_in-3-clause-none c =
    no_serve (rows_of (found_of c.args.found.now))
    (λ file port peers turns idle of a1 a2 p1 p2 p3 b says least most. c.in_default-number_in-3.ensures.none idle
    says least most)
