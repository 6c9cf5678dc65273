-- The loops of `push_notes` (the line of each note behind the text).
use Rattle.std.proofs.Common.{◌≡◌, ◌++◌, take}
use Rattle.std.specs.List.{flat_map}
use Rattle.std.specs.String.{string_bytes}
use Rattle.edl.specs.Texts.{texts_of}
use Rattle.edl.specs.Written.{line_of}
use Rattle.edl.proofs.write.push_notes.Given as goal

abbrev pub invariant-loop-note : goal.invariant-loop-note
invariant-loop-note l =
    string_bytes l.out ≡ string_bytes l.fn.out ++ flat_map line_of (texts_of (take l.note-index l.notes))
