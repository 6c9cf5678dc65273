-- `is_sound`: whether the channels of an event have this channel of sound.
use Rattle.std.proofs.Common.{◌∙◌, ap, sym}
use Rattle.edl_diff.proofs.TrackLemmas.{is_left, other_word, this_word}
use Rattle.edl_diff.proofs.track.is_sound.Goals as goal

pub loop-left-preserved : goal.loop-left-preserved
loop-left-preserved c =
    c.loop-left.invariant ∙ ap (is_left c.args.channel) c.in-Some.is
    ∙ other_word c.args.channel c.in-Some.text.now c.first_word.result.0.now c.first_word.result.1
    c.first_word.ensures.words (sym c.is_word_for.ensures ∙ c.if-is_word_for.false)

pub returns-then-is_word_for : goal.returns-then-is_word_for
returns-then-is_word_for c =
    sym (c.loop-left.invariant ∙ ap (is_left c.args.channel) c.in-Some.is
    ∙ this_word c.args.channel c.in-Some.text.now c.first_word.result.0.now c.first_word.result.1
    c.first_word.ensures.words (sym c.is_word_for.ensures ∙ c.if-is_word_for.true))

pub returns : goal.returns
returns c = sym (c.loop-left.invariant ∙ ap (is_left c.args.channel) c.in_default.is)
