-- The runs of each track, as lines.
use Rattle.std.specs.Prelude.{◌≡◌, ℕ, List, [], ◌∷◌, ◌++◌, Result, Ok, Err, codes, decimal}
use Rattle.std.specs.List.{flat_map}
use Rattle.timecode.specs.declared.rates.Rate.{Rate}
use Rattle.timecode.specs.declared.labels.Label.{Label}
use Rattle.timecode.specs.declared.faults.TcFault.{TcFault}
use Rattle.timecode.specs.Counting.{day_length}
use Rattle.timecode.specs.Label.{label_of_frame, label_text}
use Rattle.edl.specs.Entry.{EventEntry}
use Rattle.edl_diff.specs.declared.track.Track.{Track}
use Rattle.edl_diff.specs.declared.track.Track.TheVariants.{Picture, Sound}
use Rattle.edl_diff.specs.declared.status.Status.{Status}
use Rattle.edl_diff.specs.declared.status.Status.TheVariants.{Empty, Same, Slip, Other, OnlyOne, OnlyOther}
use Rattle.edl_diff.specs.declared.status.Run.{Run}
use Rattle.edl_diff.specs.Track.{all_tracks}
use Rattle.edl_diff.specs.Status.{statuses}
use Rattle.edl_diff.specs.Runs.{AreRunsOf}

-- `V`, and `A1` to `A16`
abbrev pub track_name : Track → List ℕ
track_name Picture = codes "V"
track_name (Sound n) = codes "A" ++ decimal n

abbrev pub status_name : Status → List ℕ
status_name Empty = codes "EMPTY"
status_name Same = codes "SAME"
status_name Slip = codes "SLIP"
status_name Other = codes "OTHER"
status_name OnlyOne = codes "ONLY A"
status_name OnlyOther = codes "ONLY B"

-- each frame of a day has a label
abbrev pub label_said : Result Label TcFault → List ℕ
label_said (Ok label) = label_text label
label_said (Err fault) = []

-- as `V 06:00:00:00 250 SAME`
unfoldable pub run_line : Rate → Track → Run → List ℕ
run_line rate track run =
    track_name track ++ (codes " " ++ (label_said (label_of_frame rate run.position) ++ (codes " "
    ++ (decimal run.frames ++ (codes " " ++ (status_name run.status ++ codes "\n"))))))

-- a run in which nothing is shown has no line
abbrev pub run_said : Rate → Track → Run → Status → List ℕ
run_said rate track run Empty = []
run_said rate track run Same = run_line rate track run
run_said rate track run Slip = run_line rate track run
run_said rate track run Other = run_line rate track run
run_said rate track run OnlyOne = run_line rate track run
run_said rate track run OnlyOther = run_line rate track run

abbrev pub track_lines : Rate → Track → List Run → List ℕ
track_lines rate track runs = flat_map (λ run. run_said rate track run run.status) runs

-- the text of these tracks: the lines of the runs of each, one track behind the other
abbrev pub AreCompared : Rate → List EventEntry → List EventEntry → List Track → List ℕ → Type 0
AreCompared rate one other [] text = text ≡ []
AreCompared rate one other (track ∷ tracks) text =
    (runs : List Run) × (rest : List ℕ) × AreRunsOf (statuses (day_length rate) track one other) runs
    × (text ≡ track_lines rate track runs ++ rest) × AreCompared rate one other tracks rest

-- the text of a comparison
abbrev pub IsComparison : Rate → List EventEntry → List EventEntry → List ℕ → Type 0
IsComparison rate one other text = AreCompared rate one other all_tracks text
