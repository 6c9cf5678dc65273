-- The loops of `push_blanks` (so many blanks behind the text).
use Rattle.std.proofs.Common.{◌≡◌, ◌++◌, replicate}
use Rattle.std.specs.String.{string_bytes}
use Rattle.edl.proofs.write.push_blanks.Given as goal

abbrev pub invariant-loop-written : goal.invariant-loop-written
invariant-loop-written l = string_bytes l.out ≡ string_bytes l.fn.out ++ replicate l._written 32
