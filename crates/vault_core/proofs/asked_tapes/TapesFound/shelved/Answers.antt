-- `TapesFound::shelved`: the tape that a request shelves, in this slot, or the first refusal in this order: `NoTape`.
use Rattle.std.proofs.Common.{◌∙◌, ap, sym}
use Rattle.std.specs.Prelude.{is_some}
use Rattle.vault_core.specs.Tape.{of_tape, shelved_in}
use Rattle.vault_core.proofs.AskedLemmas.{shelved_is}
use Rattle.vault_core.proofs.asked_tapes.TapesFound.shelved.Goals as goal

pub returns-in-Some : goal.returns-in-Some
returns-in-Some c = λ own n plan_is consistent answers.
    c.shelved_in.ensures ∙ ap (λ b. shelved_in c.args.plan.now c.args.slot b c.in-Some.tape) c.is_some.ensures
    ∙ ap (of_tape (shelved_in c.args.plan.now c.args.slot (is_some c.args.self.now.in_slot))) (sym c.in-Some.is)
    ∙ shelved_is own c.args.plan.now n c.args.slot c.args.self.now plan_is consistent answers

pub returns-in-None : goal.returns-in-None
returns-in-None c = λ own n plan_is consistent answers.
    c.refuse.ensures
    ∙ ap (of_tape (shelved_in c.args.plan.now c.args.slot (is_some c.args.self.now.in_slot))) (sym c.in-None.is)
    ∙ shelved_is own c.args.plan.now n c.args.slot c.args.self.now plan_is consistent answers
