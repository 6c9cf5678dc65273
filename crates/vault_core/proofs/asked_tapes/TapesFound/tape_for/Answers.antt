-- `TapesFound::tape_for`: the tape that a request adds, with the next number, or the first refusal in this order.
use Rattle.std.proofs.Common.{sym, ◌∙◌}
use Rattle.vault_core.proofs.AskedLemmas.{read_tape_is, unread_tape_is, bad_slot, barcode_known, slot_taken, vault_full}
use Rattle.vault_core.proofs.AskedLemmas.{tape_made}
use Rattle.vault_core.proofs.asked_tapes.TapesFound.tape_for.Goals as goal

pub returns-in_default : goal.returns-in_default
returns-in_default c =
    λ own plan_is consistent answers. c.refuse.ensures
    ∙ unread_tape_is c.args.barcode.now c.args.slot c.read.result c.read.ensures c.in_default.is own

pub returns-then-not-has_slot : goal.returns-then-not-has_slot
returns-then-not-has_slot c = λ own plan_is consistent answers.
    c.refuse-then-not-has_slot.ensures
    ∙ bad_slot c.args.plan.now c.in-Some.read c.args.slot c.args.self.now c.has_slot.result c.has_slot.ensures.value
    c.if-not-has_slot.true
    ∙ read_tape_is c.args.plan.now c.args.barcode.now c.args.slot c.args.self.now c.read.result c.in-Some.read
    c.read.ensures c.in-Some.is own plan_is consistent answers

pub returns-then-is_some : goal.returns-then-is_some
returns-then-is_some c = λ own plan_is consistent answers.
    c.refuse-then-is_some.ensures
    ∙ barcode_known c.args.plan.now c.in-Some.read c.args.slot c.args.self.now c.has_slot.result
    c.has_slot.ensures.value c.if-not-has_slot.false (sym c.is_some.ensures ∙ c.if-is_some.true)
    ∙ read_tape_is c.args.plan.now c.args.barcode.now c.args.slot c.args.self.now c.read.result c.in-Some.read
    c.read.ensures c.in-Some.is own plan_is consistent answers

pub returns-then-is_some-2 : goal.returns-then-is_some-2
returns-then-is_some-2 c = λ own plan_is consistent answers.
    c.refuse-then-is_some-2.ensures
    ∙ slot_taken c.args.plan.now c.in-Some.read c.args.slot c.args.self.now c.has_slot.result
    c.has_slot.ensures.value c.if-not-has_slot.false (sym c.is_some.ensures ∙ c.if-is_some.false)
    (sym c.is_some-2.ensures ∙ c.if-is_some-2.true)
    ∙ read_tape_is c.args.plan.now c.args.barcode.now c.args.slot c.args.self.now c.read.result c.in-Some.read
    c.read.ensures c.in-Some.is own plan_is consistent answers

pub returns-then-not-has_room : goal.returns-then-not-has_room
returns-then-not-has_room c = λ own plan_is consistent answers.
    c.refuse-then-not-has_room.ensures
    ∙ vault_full c.args.plan.now c.in-Some.read c.args.slot c.args.self.now c.has_slot.result
    c.has_slot.ensures.value c.if-not-has_slot.false (sym c.is_some.ensures ∙ c.if-is_some.false)
    (sym c.is_some-2.ensures ∙ c.if-is_some-2.false) c.has_room.result c.has_room.ensures.value c.if-not-has_room.true
    ∙ read_tape_is c.args.plan.now c.args.barcode.now c.args.slot c.args.self.now c.read.result c.in-Some.read
    c.read.ensures c.in-Some.is own plan_is consistent answers

pub returns : goal.returns
returns c = λ own plan_is consistent answers.
    tape_made c.args.plan.now c.in-Some.read c.args.slot c.args.self.now c.has_slot.result c.has_slot.ensures.value
    c.if-not-has_slot.false (sym c.is_some.ensures ∙ c.if-is_some.false)
    (sym c.is_some-2.ensures ∙ c.if-is_some-2.false) c.has_room.result c.has_room.ensures.value c.if-not-has_room.false
    ∙ read_tape_is c.args.plan.now c.args.barcode.now c.args.slot c.args.self.now c.read.result c.in-Some.read
    c.read.ensures c.in-Some.is own plan_is consistent answers
