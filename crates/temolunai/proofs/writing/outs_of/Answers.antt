-- `outs_of`: the events to be written.
use Rattle.std.proofs.Common.{◌<◌, length}
use Rattle.std.proofs.lemmas.List.Elements.{All-more}
use Rattle.edl.specs.Texts.{texts_of}
use Rattle.edl.specs.WrittenShown.{HasText, out_shown}
use Rattle.temolunai.specs.Writing.{out_said, CanBeWritten}
use Rattle.temolunai.proofs.TextLemmas.{said_next, all_next}
use Rattle.temolunai.proofs.writing.outs_of.Goals as goal

pub loop-at-preserved : goal.loop-at-preserved
loop-at-preserved c =
    let low : c.loop-at.at < length c.args.events.now = c.loop-at-test.true in
    let items = c.in_ok-push.ensures.items in let can = c.can_be_written.ensures.0 in
    let yes = c.if-not-can_be_written.false in record {
      said = said_next (out_said (texts_of c.args.texts.now)) out_shown c.args.events.now c.loop-at.outs.items
          c.push.new.self.items c.loop-at.at c.in_ok-out_of.field-0 _ low c.loop-at.invariant.said
          c.in_ok-out_of.ensures.said items;
      has_text = all_next (HasText c.args.rate) c.loop-at.outs.items c.push.new.self.items c.in_ok-out_of.field-0
          c.loop-at.invariant.has_text c.in_ok-out_of.ensures.has_text items;
      can =
          All-more (CanBeWritten c.args.rate (length c.args.texts.now)) c.args.events.now c.loop-at.at _ low
          c.loop-at.invariant.can (can yes);
    }
