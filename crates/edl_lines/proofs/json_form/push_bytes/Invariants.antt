-- The loops of `push_bytes` (a text as JSON has it between quotes).
use Rattle.std.proofs.Common.{◌≡◌, ◌++◌, take}
use Rattle.std.specs.List.{flat_map}
use Rattle.edl_lines.specs.Json.{json_byte}
use Rattle.edl_lines.proofs.json_form.push_bytes.Given as goal

abbrev pub invariant-loop-byte : goal.invariant-loop-byte
invariant-loop-byte l = l.out.items ≡ l.fn.out.items ++ flat_map json_byte (take l.byte-index l.text)
