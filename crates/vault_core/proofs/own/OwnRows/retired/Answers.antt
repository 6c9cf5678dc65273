-- `OwnRows::retired`: the clip of this number as it stands once it is retired, or the first refusal in this order.
use Rattle.std.proofs.Common.{subst}
use Rattle.vault_core.specs.Own.{own_seen}
use Rattle.vault_core.specs.Questions.{listed}
use Rattle.vault_core.specs.Asked.{AreClipAnswers}
use Rattle.vault_core.proofs.own.OwnRows.retired.Goals as goal

pub returns : goal.returns
returns c =
    let own = c.args.self.now in
    c.retired.ensures (own_seen own) c.args.number
    (subst (λ asked. AreClipAnswers asked (listed own.clips) c.clips_found.result) c.for_retire.ensures
    c.clips_found.ensures)
