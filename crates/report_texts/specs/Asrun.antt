-- The match table: a line for each run of a sealed day, by position, and one that says how many frames have each
-- status.
use Rattle.std.specs.Prelude.{ℕ, ◌-◌, List, ◌++◌, Bool, true, false, not, ◌||◌, ◌==◌, length, map, filter, drop}
use Rattle.std.specs.Prelude.{slice_index_or, sum_by, count_by, codes, decimal}
use Rattle.std.specs.List.{flat_map, prefix_len, range_with_len}
use Rattle.timecode.specs.Label.{label_text}
use Rattle.channel_plan.specs.declared.plan.PlanRow.{PlanRow}
use Rattle.playlist_core.specs.Day.{label_at}
use Rattle.asrun_match.specs.declared.status.Run.{Run}
use Rattle.asrun_match.specs.declared.status.Status.{Status}
use Rattle.asrun_match.specs.declared.status.Status.TheVariants.{Missed, Ok, Slip, Wrong}

abbrev pub status_text : Status → List ℕ
status_text Missed = codes "MISSED"
status_text Ok = codes "OK"
status_text Slip = codes "SLIP"
status_text Wrong = codes "WRONG"

abbrev pub is_status : Status → Status → Bool
is_status Missed Missed = true
is_status Ok Ok = true
is_status Slip Slip = true
is_status Wrong Wrong = true
is_status _ _ = false

-- label at which it begins, frames, status
abbrev pub run_line : PlanRow → Run → List ℕ
run_line plan run =
    label_text (label_at plan run.position)
    ++ (codes " " ++ (decimal run.frames ++ (codes " " ++ (status_text run.status ++ codes "\n"))))

-- how many frames have each status, where a count is given for each
abbrev pub counts_line : (Status → ℕ) → List ℕ
counts_line count =
    codes "OK " ++ (decimal (count Ok)
    ++ (codes " SLIP " ++ (decimal (count Slip) ++ (codes " WRONG " ++ (decimal (count Wrong)
    ++ (codes " MISSED " ++ (decimal (count Missed) ++ codes "\n")))))))

-- how many frames the runs of a status have
abbrev pub frames_with : Status → List Run → ℕ
frames_with s runs = sum_by (λ run. run.frames) (filter (λ run. is_status s run.status) runs)

abbrev pub match_end : List Run → List ℕ
match_end runs = counts_line (λ s. frames_with s runs)

abbrev pub match_text : PlanRow → List Run → List ℕ
match_text plan runs = flat_map (run_line plan) runs ++ match_end runs

-- the status of a frame of the day
abbrev pub status_at : List Status → ℕ → Status
status_at statuses p = slice_index_or statuses p Missed

-- a run begins at the first frame, and at each that has another status than the one before it
abbrev pub begins_run : List Status → ℕ → Bool
begins_run statuses p = p == 0 || not (is_status (status_at statuses (p - 1)) (status_at statuses p))

-- and has the frames from there on that have its status
abbrev pub run_at : List Status → ℕ → Run
run_at statuses p = record {
  position = p;
  frames = prefix_len (is_status (status_at statuses p)) (drop p statuses);
  status = status_at statuses p;
}

abbrev pub runs_of : List Status → List Run
runs_of statuses = map (run_at statuses) (filter (begins_run statuses) (range_with_len 0 (length statuses)))

-- how many frames have a status
abbrev pub status_frames : Status → List Status → ℕ
status_frames s statuses = count_by (is_status s) statuses

-- the match table of a day with these statuses
abbrev pub status_table : PlanRow → List Status → List ℕ
status_table plan statuses = flat_map (run_line plan) (runs_of statuses) ++ counts_line (λ s. status_frames s statuses)
