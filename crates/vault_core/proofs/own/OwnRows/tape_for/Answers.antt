-- `OwnRows::tape_for`: the tape that a request adds, with the next number, or the first refusal in this order.
use Rattle.std.proofs.Common.{subst, sym, ap}
use Rattle.vault_core.specs.Own.{own_seen}
use Rattle.vault_core.specs.Questions.{listed}
use Rattle.vault_core.specs.Asked.{AreTapeAnswers}
use Rattle.vault_core.proofs.ReadingLemmas.{listed_is_consistent}
use Rattle.vault_core.proofs.own.OwnRows.tape_for.Goals as goal

pub returns : goal.returns
returns c =
    let own = c.args.self.now in
    c.tape_for.ensures (own_seen own) (ap (λ o. o.plan) (sym c.self.view_is)) (listed_is_consistent own.tapes)
    (subst (λ asked. AreTapeAnswers asked (listed own.tapes) c.tapes_found.result) c.for_tape-asked.ensures
    c.tapes_found.ensures)
