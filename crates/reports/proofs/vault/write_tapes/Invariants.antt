-- The loops of `write_tapes` (writes the line of each tape, in their order).
use Rattle.std.proofs.Common.{take}
use Rattle.std.specs.List.{flat_map}
use Rattle.std.specs.Io.KnownBytes.{Appends}
use Rattle.report_texts.specs.Vault.{tape_line}
use Rattle.reports.proofs.vault.write_tapes.Given as goal

-- the lines that were written so far
abbrev pub invariant-loop-tape : goal.invariant-loop-tape
invariant-loop-tape g l =
    Appends (g.W.Write.contents l.initial.output) (g.W.Write.contents l.output)
    (flat_map tape_line (take l.tape-index l.tapes))
