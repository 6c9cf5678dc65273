-- The loops of `answer_lines` (what is answered to the lines of a text).
use Rattle.std.proofs.Common.{◌≡◌, ◌≤◌, ◌+◌, ◌++◌, length}
use Rattle.std.specs.Option.{option_or}
use Rattle.edl.specs.Text.{raw_lines}
use Rattle.timecode_lines.specs.Lines.{lines_written, fault_from}
use Rattle.timecode_lines.proofs.answer_lines.Given as goal

-- what is written, and what is to be written for the rest, is what is written for the text; each line takes a byte
abbrev pub invariant-loop-rest : goal.invariant-loop-rest
invariant-loop-rest l = record {
  text : l.made.text.items ++ lines_written l.rate (raw_lines l.rest) ≡ lines_written l.rate (raw_lines l.fn.text);
  fault : option_or l.made.fault (fault_from l.rate l.number (raw_lines l.rest))
      ≡ fault_from l.rate 1 (raw_lines l.fn.text);
  number : l.number + length l.rest ≤ 1 + length l.fn.text;
}

abbrev pub decreases-loop-rest : goal.decreases-loop-rest
decreases-loop-rest l = length l.rest
