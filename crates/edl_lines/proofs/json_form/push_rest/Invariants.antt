-- The loops of `push_rest` (the texts behind the first one, as JSON).
use Rattle.std.proofs.Common.{◌≡◌, ◌++◌, take}
use Rattle.edl.specs.Texts.{texts_of}
use Rattle.edl_lines.specs.Json.{json_rest}
use Rattle.edl_lines.proofs.json_form.push_rest.Given as goal

abbrev pub invariant-loop-text : goal.invariant-loop-text
invariant-loop-text l = l.out.items ≡ l.fn.out.items ++ json_rest (texts_of (take l.text-index l.texts))
