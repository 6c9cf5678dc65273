-- `OwnRows::shelved`: the tape of this number as it stands once it is shelved in this slot.
use Rattle.std.proofs.Common.{subst, sym, ap}
use Rattle.vault_core.specs.Own.{own_seen}
use Rattle.vault_core.specs.Questions.{listed}
use Rattle.vault_core.specs.Asked.{AreTapeAnswers}
use Rattle.vault_core.proofs.ReadingLemmas.{listed_is_consistent}
use Rattle.vault_core.proofs.own.OwnRows.shelved.Goals as goal

pub returns : goal.returns
returns c =
    let own = c.args.self.now in
    c.shelved.ensures (own_seen own) c.args.number (ap (λ o. o.plan) (sym c.self.view_is))
    (listed_is_consistent own.tapes)
    (subst (λ asked. AreTapeAnswers asked (listed own.tapes) c.tapes_found.result) c.for_shelve-asked.ensures
    c.tapes_found.ensures)
