-- What comes of rows that are added to a day's.
use Rattle.std.specs.Prelude.{◌≡◌, List, ◌++◌, Some, None, IsPermutation}
use Rattle.asrun_match.specs.declared.aired.AiredRow.{AiredRow}
use Rattle.asrun_match.specs.declared.sorted.Joined.{Joined}
use Rattle.asrun_match.specs.declared.sorted.Joined.TheVariants.{Rows as AllRows, Twice}
use Rattle.asrun_match.specs.Aired.{Rows, first_twice, rows_picture}

-- all of them, where none airs a frame again, and else the first frame that one does
abbrev pub IsJoined : Rows → List AiredRow → Joined → Type 0
IsJoined day rows (AllRows later) = (first_twice (rows_picture day) rows ≡ None)
    × IsPermutation (day.rows ++ rows) later.rows × (later.frames ≡ day.frames)
IsJoined day rows (Twice p) = first_twice (rows_picture day) rows ≡ Some p
