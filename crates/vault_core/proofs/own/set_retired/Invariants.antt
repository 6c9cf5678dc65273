-- The loops of `set_retired` (clip `number` retired).
use Rattle.std.proofs.Common.{◌≡◌, true}
use Rattle.std.specs.Prelude.{◌==◌}
use Rattle.vault_core.specs.Questions.{alter}
use Rattle.vault_core.proofs.AlterLemmas.{so_far}
use Rattle.vault_core.proofs.own.set_retired.Given as goal

abbrev pub invariant-loop-clip : goal.invariant-loop-clip
invariant-loop-clip l =
    so_far (λ c. c.n == l.number) (λ c. record c { retired = true }) l.clip-index l.clips
    ≡ alter (λ c. c.n == l.number) (λ c. record c { retired = true }) l.fn.clips
