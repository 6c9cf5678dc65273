-- The loops of `head_end` (how long the head is, if it ends).
use Rattle.std.proofs.Common.{◌≡◌, ◌+◌, ◌-◌, ◌≤◌, length, drop}
use Rattle.std.specs.Prelude.{option_map}
use Rattle.http_office_requests.specs.Piece.{head_len}
use Rattle.http_office_requests.proofs.piece.head_end.Given as goal

-- no head ends before `at`
abbrev pub invariant-loop-at : goal.invariant-loop-at
invariant-loop-at l = record {
  within : l.at ≤ length l.bytes;
  before : head_len l.bytes ≡ option_map (λ n. l.at + n) (head_len (drop l.at l.bytes));
}

abbrev pub decreases-loop-at : goal.decreases-loop-at
decreases-loop-at l = length l.bytes - l.at
