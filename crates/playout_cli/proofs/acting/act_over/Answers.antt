-- `act_over`: does over a file what the words ask for.
use Rattle.std.proofs.Common.{inl, inr, refl, sym, ap, ◌∙◌, subst, subst₂}
use Rattle.std.proofs.KnownBytes.{Keeps-refl}
use Rattle.channel_plan.specs.Plan.{is_plan}
use Rattle.playout_actions.specs.Answering.{ArePlanTexts, RefusesPlan}
use Rattle.playout_lists.specs.declared.fault.Fault.TheVariants.{Refused}
use Rattle.playout_cli.proofs.acting.act_over.Goals as goal

pub returns-in-Ok-clause-does : goal.returns-in-Ok-clause-does
returns-in-Ok-clause-does g c = inr (
  c.deref.result.now,
  (
    subst₂ ArePlanTexts c.rows_for.ensures (sym c.deref.ensures.value) c.in-Ok.ensures.texts,
    ap is_plan
        c.deref.ensures.value ∙ c.in-Ok.ensures.plan,
  ),
  c.act_on_file.ensures.does,
)

pub returns-in-Err-clause-does : goal.returns-in-Err-clause-does
returns-in-Err-clause-does g c =
    let told = c.exit_status.ensures in
    inl (
      Keeps-refl _,
      Keeps-refl _,
      (
        Refused c.in-Err.refusal,
        (
          c.in-Err.refusal,
          refl,
          subst (λ texts. RefusesPlan texts c.in-Err.refusal) c.rows_for.ensures
              c.in-Err.ensures.err,
        ),
        told.0,
        told.1,
      ),
    )
