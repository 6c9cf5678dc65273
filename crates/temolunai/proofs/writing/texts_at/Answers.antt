-- `texts_at`: the texts at places, if each has one.
use Rattle.std.proofs.Common.{◌<◌, ℕ, length, arith}
use Rattle.std.proofs.lemmas.List.{take_all}
use Rattle.std.proofs.lemmas.List.Elements.{All-more}
use Rattle.std.specs.Borrow.{Bor}
use Rattle.std.specs.Prelude.{List}
use Rattle.temolunai.specs.Texts.{text_at}
use Rattle.temolunai.specs.Writing.{IsText}
use Rattle.temolunai.proofs.TextLemmas.{said_next}
use Rattle.temolunai.proofs.writing.texts_at.Goals as goal

pub loop-place-preserved : goal.loop-place-preserved
loop-place-preserved c =
    let low : c.loop-place.place-index < length c.args.places.now = c.loop-place-test.true in
    let got = c.in-Some.ensures in let items = c.in_ok-push.ensures.items in record {
      are =
          All-more (IsText c.args.bytes.now) c.args.places.now c.loop-place.place-index _ low c.loop-place.invariant.are
          got.0;
      said =
          said_next (text_at c.args.bytes.now) (λ (text : Bor (List ℕ)). text.now) c.args.places.now
          c.loop-place.texts.items
          c.push.new.self.items c.loop-place.place-index c.in-Some.text _ low c.loop-place.invariant.said got.1 items;
    }

pub returns : goal.returns
returns c =
    let all = take_all c.loop-place.place-index c.args.places.now (omega arith) in
    (rw all at c.loop-place.invariant.are, rw all at c.loop-place.invariant.said)
