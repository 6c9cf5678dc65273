-- `first_word`: the first word, and what stands behind its end, if there is more.
use Rattle.edl_diff.proofs.TrackLemmas.{first_word_at, first_word_whole}
use Rattle.edl_diff.proofs.track.first_word.Goals as goal

pub returns-in-Some-clause-words : goal.returns-in-Some-clause-words
returns-in-Some-clause-words c = first_word_at c.args.channels.now c.in-Some.at c.in-Some.ensures.value

pub returns-in-None-clause-words : goal.returns-in-None-clause-words
returns-in-None-clause-words c = first_word_whole c.args.channels.now c.in-None.ensures.value
