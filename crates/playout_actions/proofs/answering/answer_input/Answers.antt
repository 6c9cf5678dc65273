-- `answer_input`: answers the messages of an input over the plan of these texts alone, and writes their answers.
use Rattle.std.proofs.Common.{sym, subst}
use Rattle.std.specs.Prelude.{IsPermutation}
use Rattle.channel_view_model.specs.Rules.{KeepsRules}
use Rattle.playout_actions.proofs.answering.answer_input.Goals as goal

pub returns-in-Ok-clause-ok : goal.returns-in-Ok-clause-ok
returns-in-Ok-clause-ok g c =
    let done = c.in-Ok.ensures.ok in (
      done.0,
      record {
        plan = c.in_ok-plan.plan.items;
        texts_are = c.in_ok-plan.ensures.texts;
        plan_is = c.in_ok-plan.ensures.plan;
        rows = c.in_ok-store.store;
        channels =
            subst (λ plan. IsPermutation plan c.in_ok-store.store.channels) c.deref.ensures.value
            c.in_ok-store.ensures.plan.0;
        nothing_else = c.in_ok-store.ensures.alone;
        serves = record {
          pieces = done.1.pieces;
          answers = done.1.answers;
          served = done.1.served;
          answered =
              λ rows is. done.1.did.answered tt rows (sym is, subst KeepsRules (sym is) c.in_ok-store.ensures.rules);
          left = λ rows is. tt;
          stop = λ rows is found none. absurd none;
        };
      },
    )

pub returns-clause-err : goal.returns-clause-err
returns-clause-err g c =
    let failed = c.in-Err.ensures.err in (
      failed.0,
      failed.1,
      record {
        plan = c.in_ok-plan.plan.items;
        texts_are = c.in_ok-plan.ensures.texts;
        plan_is = c.in_ok-plan.ensures.plan;
        rows = c.in_ok-store.store;
        channels =
            subst (λ plan. IsPermutation plan c.in_ok-store.store.channels) c.deref.ensures.value
            c.in_ok-store.ensures.plan.0;
        nothing_else = c.in_ok-store.ensures.alone;
        serves = record {
          pieces = failed.2.pieces;
          answers = failed.2.answers;
          served = failed.2.served;
          answered =
              λ rows is. failed.2.did.answered tt rows (sym is, subst KeepsRules (sym is) c.in_ok-store.ensures.rules);
          left = λ rows is. tt;
          stop = λ rows is found none. absurd none;
        };
      },
    )
