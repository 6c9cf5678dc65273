-- `turns_in`: how many connections are served in all, where so many may be open at once.
use Rattle.std.proofs.Common.{◌≡◌, codes}
use Rattle.std.specs.Prelude.{None}
use Rattle.clap.specs.Words.{found_of, rows_of, first_of}
use Rattle.playout_args.proofs.AskLemmas.{no_turns}
use Rattle.playout_args.proofs.words.turns_in.Goals as goal

pub returns-in-None-number_in-clause-none : goal.returns-in-None-number_in-clause-none
returns-in-None-number_in-clause-none c =
    no_turns (rows_of (found_of c.args.found.now)) c.args.peers
    (λ (e : first_of (codes "turns") (rows_of (found_of c.args.found.now)) ≡ None). let h =
    rw c.in-Some.is at c.text_in.ensures in cc) c.in-None-number_in.ensures.none
