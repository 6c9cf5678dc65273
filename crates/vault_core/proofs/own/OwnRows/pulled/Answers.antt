-- `OwnRows::pulled`: the tape of this number as it stands once it is pulled, out of its slot.
use Rattle.std.proofs.Common.{subst}
use Rattle.vault_core.specs.Own.{own_seen}
use Rattle.vault_core.specs.Questions.{listed}
use Rattle.vault_core.specs.Asked.{AreTapeAnswers}
use Rattle.vault_core.proofs.own.OwnRows.pulled.Goals as goal

pub returns : goal.returns
returns c =
    let own = c.args.self.now in
    c.pulled.ensures (own_seen own) c.args.number
    (subst (λ asked. AreTapeAnswers asked (listed own.tapes) c.tapes_found.result) c.for_pull.ensures
    c.tapes_found.ensures)
