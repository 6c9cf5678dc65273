-- a text with another byte in a mark's place has not the form
use Rattle.std.proofs.Common.{sym, ◌∙◌}
use Rattle.std.proofs.lemmas.Bool.{and_left, and_right}
use Rattle.timecode.proofs.conversion.parts_of.Goals as goal
use Rattle.timecode.proofs.conversion.parts_of.Goals.{then-not-is_mark-via-then-not-is_mark}
use Rattle.timecode.proofs.conversion.parts_of.Goals.{then-not-is_mark-via-else-not-is_mark+then-not-is_mark-2}
use Rattle.timecode.proofs.conversion.parts_of.Goals.{then-not-is_mark-via-else-not-is_mark+else-not-is_mark-2+then-not-is_mark-3}

pub returns-then-not-is_mark : goal.returns-then-not-is_mark
returns-then-not-is_mark c =
    elim c.then-not-is_mark.branch [
      | then-not-is_mark-via-then-not-is_mark w ↦
          and_left _ _
          (and_left _ _
          (and_left _ _
          (and_left _ _ (and_left _ _ (and_right _ _ (sym c.is_mark.ensures ∙ w.if-not-is_mark.true))))))
      | then-not-is_mark-via-else-not-is_mark+then-not-is_mark-2 w ↦
          and_left _ _
          (and_left _ _
          (and_left _ _ (and_right _ _ (sym w.is_mark-else-not-is_mark.ensures ∙ w.if-not-is_mark-2.true))))
      | then-not-is_mark-via-else-not-is_mark+else-not-is_mark-2+then-not-is_mark-3 w ↦
          and_left _ _ (and_right _ _ (sym w.is_mark-else-not-is_mark-2.ensures ∙ w.if-not-is_mark-3.true))
    ]
