-- The loops of `set_withdrawn` (offer `number` withdrawn).
use Rattle.std.proofs.Common.{◌≡◌, true}
use Rattle.std.specs.Prelude.{◌==◌}
use Rattle.vault_core.specs.Questions.{alter}
use Rattle.vault_core.proofs.AlterLemmas.{so_far}
use Rattle.vault_core.proofs.own.set_withdrawn.Given as goal

abbrev pub invariant-loop-offer : goal.invariant-loop-offer
invariant-loop-offer l =
    so_far (λ o. o.n == l.number) (λ o. record o { withdrawn = true }) l.offer-index l.offers
    ≡ alter (λ o. o.n == l.number) (λ o. record o { withdrawn = true }) l.fn.offers
