-- The loops of `push_copies` (so many copies of a byte behind the line, which has room for them).
use Rattle.std.proofs.Common.{◌≡◌, ◌+◌, ◌++◌, length, replicate}
use Rattle.report_texts.proofs.line.push_copies.Given as goal

-- the copies so far
abbrev pub invariant-loop-pushed : goal.invariant-loop-pushed
invariant-loop-pushed l = record {
  items : l.line.items ≡ l.initial.line.items ++ replicate l._pushed l.byte;
  len : length l.line.items ≡ length l.initial.line.items + l._pushed;
}
