-- The loops of `texts_at` (the texts at places, if each has one).
use Rattle.std.proofs.Common.{◌≡◌, take}
use Rattle.std.specs.Prelude.{All}
use Rattle.edl.specs.Texts.{texts_of}
use Rattle.temolunai.specs.Texts.{texts_at}
use Rattle.temolunai.specs.Writing.{IsText}
use Rattle.temolunai.proofs.writing.texts_at.Given as goal

abbrev pub invariant-loop-place : goal.invariant-loop-place
invariant-loop-place l = record {
  are : All (IsText l.bytes) (take l.place-index l.places);
  said : texts_of l.texts.items ≡ texts_at l.bytes (take l.place-index l.places);
}
