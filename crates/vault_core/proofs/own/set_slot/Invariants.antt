-- The loops of `set_slot` (tape `number` with this slot, or out).
use Rattle.std.proofs.Common.{◌≡◌}
use Rattle.std.specs.Prelude.{◌==◌}
use Rattle.vault_core.specs.Questions.{alter}
use Rattle.vault_core.proofs.AlterLemmas.{so_far}
use Rattle.vault_core.proofs.own.set_slot.Given as goal

abbrev pub invariant-loop-tape : goal.invariant-loop-tape
invariant-loop-tape l =
    so_far (λ t. t.n == l.number) (λ t. record t { slot = l.slot }) l.tape-index l.tapes
    ≡ alter (λ t. t.n == l.number) (λ t. record t { slot = l.slot }) l.fn.tapes
