-- `notes_said`: so many notes, from text n on.
use Rattle.std.proofs.Common.{◌∙◌, ap}
use Rattle.edl.specs.Texts.{texts_of}
use Rattle.temolunai.proofs.TextLemmas.{notes_taken}
use Rattle.temolunai.proofs.writing.notes_said.Goals as goal

pub returns : goal.returns
returns c =
    c.of.ensures ∙ ap texts_of c.in_ok-from_slice.ensures.items ∙ notes_taken c.args.n c.args.count c.args.texts.now
