-- The loops of `outs_of` (the events to be written).
use Rattle.std.proofs.Common.{◌≡◌, take, map, length}
use Rattle.std.specs.Prelude.{All}
use Rattle.edl.specs.Texts.{texts_of}
use Rattle.edl.specs.WrittenShown.{HasText, outs_of}
use Rattle.temolunai.specs.Writing.{out_said, CanBeWritten}
use Rattle.temolunai.proofs.writing.outs_of.Given as goal

abbrev pub invariant-loop-at : goal.invariant-loop-at
invariant-loop-at l = record {
  said : outs_of l.outs.items ≡ map (out_said (texts_of l.texts)) (take l.at l.events);
  has_text : All (HasText l.rate) l.outs.items;
  can : All (CanBeWritten l.rate (length l.texts)) (take l.at l.events);
}
