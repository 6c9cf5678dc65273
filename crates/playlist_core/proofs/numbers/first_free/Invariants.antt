-- The loops of `first_free` (the first number from this one on that isn't marked).
use Rattle.std.proofs.Common.{◌≡◌, ◌-◌, get_or, not, false}
use Rattle.playlist_core.specs.declared.numbers.TheConstants.{NUMBERS}
use Rattle.playlist_core.specs.Picture.{least}
use Rattle.playlist_core.proofs.numbers.first_free.Given as goal

-- what is left decides
abbrev pub invariant-loop-number : goal.invariant-loop-number
invariant-loop-number l =
    least (λ n. not (get_or l.taken n false)) l.from (NUMBERS - l.from)
    ≡ least (λ n. not (get_or l.taken n false)) l.number (NUMBERS - l.number)
