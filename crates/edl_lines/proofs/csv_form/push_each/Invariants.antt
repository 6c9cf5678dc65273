-- The loops of `push_each` (each note as CSV has it, with a line feed behind it).
use Rattle.std.proofs.Common.{◌≡◌, ◌++◌, List, ℕ, take}
use Rattle.std.specs.Prelude.{codes}
use Rattle.std.specs.List.{flat_map}
use Rattle.edl.specs.Texts.{texts_of}
use Rattle.edl_lines.specs.Csv.{csv_byte}
use Rattle.edl_lines.proofs.csv_form.push_each.Given as goal

abbrev pub invariant-loop-note : goal.invariant-loop-note
invariant-loop-note l = l.out.items ≡ l.fn.out.items
    ++ flat_map (λ (note : List ℕ). flat_map csv_byte note ++ codes "\n") (texts_of (take l.note-index l.notes))
