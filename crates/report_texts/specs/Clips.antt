-- The clip table: a line for each clip, by number, and one that counts them.
use Rattle.std.specs.Prelude.{ℕ, List, ◌++◌, Bool, true, false, length, codes, decimal}
use Rattle.std.specs.List.{flat_map, list_all}
use Rattle.hex.specs.Hex.{encode_lower}
use Rattle.timecode.specs.declared.rates.Rate.{Rate}
use Rattle.timecode.specs.Label.{frame_text}
use Rattle.umid.specs.BasicUmid.{basic_umid}
use Rattle.vault_core.specs.declared.clip.Clip.{Clip}
use Rattle.vault_core.specs.Reel.{clip_reel}
use Rattle.report_texts.specs.Fields.{left_in, number_in, has_label}

-- whether a clip is retired
abbrev pub state_field : Bool → List ℕ
state_field false = left_in 7 (codes "active")
state_field true = left_in 7 (codes "retired")

-- reel, state, label of the first source frame, frames, tape, UMID, title
abbrev pub clip_line : Rate → Clip → List ℕ
clip_line rate k =
    clip_reel k.n ++
    (codes " " ++ (state_field k.retired ++ (codes " " ++ (frame_text rate k.src_first ++ (codes " "
    ++ (number_in 7 k.frames ++ (codes " " ++ (number_in 4 k.tape ++ (codes " "
    ++ (encode_lower (basic_umid k.umid) ++ (codes " " ++ (k.title ++ codes "\n"))))))))))))

-- how many clips there are, retired ones included
abbrev pub clips_end : ℕ → List ℕ
clips_end count = codes "CLIPS " ++ (decimal count ++ codes "\n")

abbrev pub clip_text : Rate → List Clip → List ℕ
clip_text rate clips = flat_map (clip_line rate) clips ++ clips_end (length clips)

-- whether the first source frame of each has a label
abbrev pub clips_have_labels : Rate → List Clip → Bool
clips_have_labels rate clips = list_all (λ k. has_label rate k.src_first) clips
