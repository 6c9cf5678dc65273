-- The days table: a line for each day that is there, by number, and one that counts them.
use Rattle.std.specs.Prelude.{ℕ, List, ◌++◌, ◌==◌, Option, Some, None, length, find, codes, decimal}
use Rattle.std.specs.List.{flat_map}
use Rattle.playlist_core.specs.Day.{Day}
use Rattle.asrun_match.specs.declared.day.DayAsRun.{DayAsRun}
use Rattle.report_texts.specs.declared.counts.DayCounts.{DayCounts}
use Rattle.report_texts.specs.Fields.{left_in, number_in}
use Rattle.report_texts.specs.Playlist.{day_state, frames_of}

-- how many batches came for the day of this number
abbrev pub batches_in : Option DayAsRun → ℕ
batches_in None = 0
batches_in (Some a) = length a.aired.batches

abbrev pub batches_of : List DayAsRun → ℕ → ℕ
batches_of aired n = batches_in (find (λ a. a.day == n) aired)

-- what is told of a day: its items are counted, and their frames summed
abbrev pub day_counts : ℕ → Day → DayCounts
day_counts batches day = record {
  number = day.number;
  state = day.state;
  items = length day.items;
  frames = frames_of day.items;
  batches = batches;
}

-- number, state, items, frames, batches
abbrev pub counts_line : DayCounts → List ℕ
counts_line d =
    number_in 5 d.number
    ++ (codes " " ++ (left_in 6 (day_state d.state) ++ (codes " " ++ (number_in 4 d.items ++ (codes " "
    ++ (number_in 7 d.frames ++ (codes " " ++ (number_in 2 d.batches ++ codes "\n"))))))))

-- the line of a day, by what was aired of the channel's days
abbrev pub day_line : List DayAsRun → Day → List ℕ
day_line aired day = counts_line (day_counts (batches_of aired day.number) day)

-- how many days there are
abbrev pub days_end : ℕ → List ℕ
days_end count = codes "DAYS " ++ (decimal count ++ codes "\n")

abbrev pub days_text : List DayAsRun → List Day → List ℕ
days_text aired days = flat_map (day_line aired) days ++ days_end (length days)
