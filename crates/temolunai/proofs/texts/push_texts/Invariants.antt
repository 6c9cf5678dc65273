-- The loops of `push_texts` (adds texts).
use Rattle.std.proofs.Common.{◌≡◌, ◌++◌, take, length}
use Rattle.std.specs.Prelude.{All}
use Rattle.edl.specs.Texts.{texts_of}
use Rattle.temolunai.specs.Texts.{texts_at, IsWithin}
use Rattle.temolunai.proofs.texts.push_texts.Given as goal

abbrev pub invariant-loop-text : goal.invariant-loop-text
invariant-loop-text l = record {
  within : All (IsWithin (length l.texts.bytes.items)) l.texts.places.items;
  said : texts_at l.texts.bytes.items l.texts.places.items
      ≡ texts_at l.fn.texts.bytes.items l.fn.texts.places.items ++ texts_of (take l.text-index l.more);
}
