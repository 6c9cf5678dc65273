-- `action_met`: what the subcommand that was met asks for.
use Rattle.std.proofs.Common.{inl, inr, sym, subst}
use Rattle.std.proofs.lemmas.Result.{IfErr-weaker, IfOk-weaker}
use Rattle.clap.specs.Words.{found_of, rows_of}
use Rattle.clap.specs.declared.parser.matches.ArgMatches.TheViews.{out-ArgMatches}
use Rattle.playout_args.specs.Words.{IsAsked}
use Rattle.playout_args.proofs.AskLemmas.{met}
use Rattle.playout_args.proofs.words.action_met.Goals as goal

pub returns-in-Some-clause-asks : goal.returns-in-Some-clause-asks
returns-in-Some-clause-asks c =
    let one =
    met (out-ArgMatches c.args.matches.now).subcommand c.in-Some.name.now (rows_of (found_of c.in-Some.found.now))
    c.in-Some.ensures.name c.in-Some.ensures.rows in
    IfOk-weaker c.action_in.result _ _ (λ action asks. subst (λ o. IsAsked o action) (sym one) asks)
    c.action_in.ensures.asks

pub returns-in-Some-clause-fails : goal.returns-in-Some-clause-fails
returns-in-Some-clause-fails c =
    let one =
    met (out-ArgMatches c.args.matches.now).subcommand c.in-Some.name.now (rows_of (found_of c.in-Some.found.now))
    c.in-Some.ensures.name c.in-Some.ensures.rows in
    IfErr-weaker c.action_in.result _ _ (λ e fails. elim fails [
      | inl memory ↦ inl memory
      | inr nothing ↦ inr (nothing.0, λ action asked. nothing.1 action (subst (λ o. IsAsked o action) one asked))
    ]) c.action_in.ensures.fails
