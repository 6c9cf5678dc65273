-- `TapesFound::pulled`: the tape that a pull names, out of its slot, or the first refusal in this order: `NoTape`.
use Rattle.std.proofs.Common.{◌∙◌, ap, sym}
use Rattle.vault_core.specs.Tape.{of_tape, as_pulled}
use Rattle.vault_core.proofs.AskedLemmas.{pulled_is}
use Rattle.vault_core.proofs.asked_tapes.TapesFound.pulled.Goals as goal

pub returns-in-Some : goal.returns-in-Some
returns-in-Some c =
    λ own n answers. c.as_pulled.ensures ∙ ap (of_tape as_pulled) (sym c.in-Some.is)
    ∙ pulled_is own n c.args.self.now answers

pub returns-in-None : goal.returns-in-None
returns-in-None c =
    λ own n answers. c.refuse.ensures ∙ ap (of_tape as_pulled) (sym c.in-None.is)
    ∙ pulled_is own n c.args.self.now answers
