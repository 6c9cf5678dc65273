-- What is said of a list.
use Rattle.std.specs.Prelude.{ℕ, List, ◌++◌, codes, decimal}
use Rattle.playout_lists.specs.declared.checking.Counts.{Counts}

-- as `events 2 picture 2 sound 0 notes 1`
abbrev pub text_of_counts : Counts → List ℕ
text_of_counts counts =
    codes "events " ++ (decimal counts.events ++ (codes " picture " ++ (decimal counts.picture
    ++ (codes " sound " ++ (decimal counts.sound ++ (codes " notes " ++ decimal counts.notes))))))
