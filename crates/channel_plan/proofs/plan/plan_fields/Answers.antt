-- `plan_fields`: the four fields of a plan row's text, if it has four.
use Rattle.std.proofs.Common.{◌≡◌, ◌∷◌, [], sym, ◌∙◌}
use Rattle.std.specs.List.{slice_split}
use Rattle.channel_plan.specs.Plan.{is_comma}
use Rattle.channel_plan.proofs.PlanLemmas.{more_fields}
use Rattle.channel_plan.proofs.plan.plan_fields.Goals as goal

pub returns-then-is_some-clause-none : goal.returns-then-is_some-clause-none
returns-then-is_some-clause-none c = λ a b x d fields.
    let one = rw c.in_ok-rest.was at c.first_field.ensures in
    let two = rw c.in_ok-rest-2.was at c.first_field-2.ensures in
    let three = rw c.in_ok-rest-3.was at c.first_field-3.ensures in
    let last : slice_split is_comma c.in_ok-rest-3.field-0.now ≡ d ∷ [] = cc in
    more_fields c.in_ok-rest-3.field-0.now c.first_field-4.result.0.now c.first_field-4.result.1
    (sym c.is_some.ensures ∙ c.if-is_some.true) c.first_field-4.ensures d last
