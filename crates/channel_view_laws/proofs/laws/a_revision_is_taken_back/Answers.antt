-- `a_revision_is_taken_back`: a revision that takes back another gives back what the day showed.
use Rattle.channel_view_laws.proofs.TakenBackLemmas.{taken_back}
use Rattle.channel_view_laws.proofs.laws.a_revision_is_taken_back.Goals as goal

pub returns : goal.returns
returns c = taken_back
