-- Two lists of notes are equal just where each note is.
use Rattle.std.proofs.Common.{◌∙◌, ℕ, List, sym, ap}
use Rattle.std.specs.Prelude.{bytes_eq}
use Rattle.std.specs.Borrow.{Bor}
use Rattle.std.specs.Cmp.Derive.Mapped.{pointwise-map}
use Rattle.edl.specs.Texts.{texts_of}
use Rattle.edl.specs.Equal.{texts_eq}
use Rattle.edl.proofs.values.NotesPartialEq.eq.Goals as goal

pub returns : goal.returns
returns c =
    c.eq.ensures
    ∙ sym (pointwise-map (λ (text : Bor (List ℕ)). text.now) bytes_eq c.as_slice.result.now c.as_slice-2.result.now)
    ∙ ap (λ texts. texts_eq texts (texts_of c.as_slice-2.result.now)) c.as_slice.ensures
    ∙ ap (texts_eq c.args.self.now) c.as_slice-2.ensures
