-- `OwnRows::clip_for`: the clip that is added on the tape of this number, with the next number.
use Rattle.std.proofs.Common.{subst, sym, ap}
use Rattle.vault_core.specs.Own.{own_seen}
use Rattle.vault_core.specs.Questions.{listed}
use Rattle.vault_core.specs.Asked.{AreTapeAnswers, AreClipAnswers}
use Rattle.vault_core.proofs.ReadingLemmas.{listed_is_consistent}
use Rattle.vault_core.proofs.own.OwnRows.clip_for.Goals as goal

pub returns : goal.returns
returns c =
    let own = c.args.self.now in
    c.clip_for.ensures (own_seen own) c.args.tape (ap (λ o. o.plan) (sym c.self.view_is))
    (listed_is_consistent own.clips)
    (subst (λ asked. AreTapeAnswers asked (listed own.tapes) c.tapes_found-tapes.result) c.for_clip.ensures
    c.tapes_found-tapes.ensures)
    (subst (λ asked. AreClipAnswers asked (listed own.clips) c.clips_found-clips.result) c.for_clip-2.ensures
    c.clips_found-clips.ensures)
