-- What the words ask for, or the kind of error with which they end.
use Rattle.std.proofs.Common.{◌∙◌, ap, sym, subst, inl, inr, map}
use Rattle.std.specs.Prelude.{string_bytes}
use Rattle.std.proofs.lemmas.Result.{IfErr-weaker, IfOk-weaker}
use Rattle.clap.specs.Words.{App, HasKind, is_simple, subcommand_of}
use Rattle.clap.specs.Faults.{fault_of, is_simple_and_free}
use Rattle.playout_args.specs.Words.{IsAsked}
use Rattle.playout_args.proofs.AskLemmas.{program_simple, program_free}
use Rattle.playout_args.proofs.words.action_of.Goals as goal

pub returns-in-Ok-clause-asks : goal.returns-in-Ok-clause-asks
returns-in-Ok-clause-asks c =
    let is = c.in_ok-command.ensures in
    let found =
    (c.in-Ok.ensures.matches (ap is_simple is ∙ program_simple)).1
    ∙ ap (λ (a : App). subcommand_of a (map string_bytes c.args.words.now)) is in
    IfOk-weaker c.action_met.result _ _ (λ action asked. subst (λ o. IsAsked o action) found asked)
    c.action_met.ensures.asks

pub returns-in-Ok-clause-fails : goal.returns-in-Ok-clause-fails
returns-in-Ok-clause-fails c =
    let is = c.in_ok-command.ensures in
    let found =
    (c.in-Ok.ensures.matches (ap is_simple is ∙ program_simple)).1
    ∙ ap (λ (a : App). subcommand_of a (map string_bytes c.args.words.now)) is in
    IfErr-weaker c.action_met.result _ _ (λ e fails taken. elim fails [
      | inl memory ↦ inl memory
      | inr nothing ↦ inr (λ action asked. nothing.1 action (subst (λ o. IsAsked o action) (sym found) asked))
    ]) c.action_met.ensures.fails

pub returns-in-Ok-clause-ends : goal.returns-in-Ok-clause-ends
returns-in-Ok-clause-ends c =
    let is = c.in_ok-command.ensures in
    let found =
    (c.in-Ok.ensures.matches (ap is_simple is ∙ program_simple)).1
    ∙ ap (λ (a : App). subcommand_of a (map string_bytes c.args.words.now)) is in
    let none =
    sym (ap (λ (a : App). fault_of a (map string_bytes c.args.words.now)) is)
    ∙ c.in-Ok.ensures.kinds (ap is_simple_and_free is ∙ program_free) in
    IfErr-weaker c.action_met.result _ _ (λ e fails. elim fails [
      | inl memory ↦ inl (inl memory)
      | inr nothing ↦ inr
          (none, nothing.0, λ action asked. nothing.1 action (subst (λ o. IsAsked o action) (sym found) asked))
    ]) c.action_met.ensures.fails

pub returns-in-Err-clause-ends : goal.returns-in-Err-clause-ends
returns-in-Err-clause-ends c =
    let is = c.in_ok-command.ensures in
    inl (subst (λ (a : App). HasKind (fault_of a (map string_bytes c.args.words.now)) c.in-Err.error) is
    (c.in-Err.ensures.kinds (ap is_simple_and_free is ∙ program_free)))
