-- The loops of `first_twice` (the first frame that rows, one after another, air again, beside those that were aired).
use Rattle.std.proofs.Common.{◌≡◌, ◌++◌, drop}
use Rattle.playlist_core.specs.Picture.{picture_of}
use Rattle.asrun_match.specs.Aired.{aired, first_twice}
use Rattle.asrun_match.proofs.sorted.first_twice.Given as goal

-- what is left decides, beside what was aired and the rows so far
abbrev pub invariant-loop-row : goal.invariant-loop-row
invariant-loop-row l = record {
  rest : first_twice (picture_of aired l.frames (l.earlier.rows ++ l.taken)) (drop l.row-index l.rows)
      ≡ first_twice (picture_of aired l.frames l.taken) l.rows;
  frames : l.earlier.frames ≡ l.frames;
}
