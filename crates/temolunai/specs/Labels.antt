-- Labels and frames as C gets them.
use Rattle.std.specs.Prelude.{ℕ, ◌≡◌, ◌*◌, ◌/◌, ◌%◌, ◌==◌, ◌<◌, ◌≤◌, ◌++◌, ◌⊎◌, All, List, Bool, false, drop, take}
use Rattle.std.specs.Prelude.{length, Option, Some, None}
use Rattle.std.specs.Prelude.{Result, Ok, Err, nat_lt, not, if◌then◌else◌}
use Rattle.std.specs.List.{flat_map}
use Rattle.timecode.specs.declared.rates.Rate.{Rate}
use Rattle.timecode.specs.declared.faults.TcFault.{TcFault}
use Rattle.timecode.specs.declared.faults.TcFault.TheVariants.{LabelForm, FrameRange}
use Rattle.timecode.specs.declared.labels.Label.{Label}
use Rattle.timecode.specs.Address.{address}
use Rattle.timecode.specs.Counting.{day_length}
use Rattle.timecode.specs.Fault.{fault_number}
use Rattle.timecode.specs.Label.{label_of, label_of_frame, label_text, frame_text}
use Rattle.timecode.specs.LabelReading.{reading_of_text, frame_of_label}
use Rattle.timecode.specs.Rate.{nominal_frames, is_drop_frame}
use Rattle.temolunai.specs.Numbers.{done, no_such_rate, no_room}
use Rattle.temolunai.specs.Rooms.{put}
use Rattle.temolunai.specs.declared.labels.Reading.{Reading}
use Rattle.temolunai.specs.declared.labels.LabelRead.{LabelRead}

-- the frames of a day, those that are counted in a second, and whether labels are dropped; of no rate none
abbrev pub day_frames_at : Option Rate → ℕ
day_frames_at (Some rate) = day_length rate
day_frames_at None = 0

abbrev pub nominal_frames_at : Option Rate → ℕ
nominal_frames_at (Some rate) = nominal_frames rate
nominal_frames_at None = 0

abbrev pub is_drop_frame_at : Option Rate → Bool
is_drop_frame_at (Some rate) = is_drop_frame rate
is_drop_frame_at None = false

-- a frame, or why there is none
abbrev pub reading_of : Result ℕ TcFault → Reading
reading_of (Ok frame) = record { fault = done; frame = frame }
reading_of (Err fault) = record { fault = fault_number fault; frame = 0 }

abbrev pub nothing_read : Reading
nothing_read = record { fault = no_such_rate; frame = 0 }

-- the frame of a label's text
abbrev pub text_read : Option Rate → List ℕ → Reading
text_read (Some rate) text = reading_of (reading_of_text rate text)
text_read None text = nothing_read

-- the frame of a label's numbers
abbrev pub parts_read : Option Rate → ℕ → ℕ → ℕ → ℕ → Reading
parts_read (Some rate) h m s f = reading_of (frame_of_label (label_of rate (address h m s f)))
parts_read None h m s f = nothing_read

-- the label of a frame in its numbers, or why there is none
abbrev pub label_read : Result Label TcFault → LabelRead
label_read (Ok label) = record {
  fault = done;
  hours = label.hours;
  minutes = label.minutes;
  seconds = label.seconds;
  frames = label.frames;
}
label_read (Err fault) = record { fault = fault_number fault; hours = 0; minutes = 0; seconds = 0; frames = 0 }

abbrev pub label_at : Option Rate → ℕ → LabelRead
label_at (Some rate) frame = label_read (label_of_frame rate frame)
label_at None frame = record { fault = no_such_rate; hours = 0; minutes = 0; seconds = 0; frames = 0 }

-- What writing a frame's label answers, and how it leaves the room: of 11 bytes or more, else nothing is written.
abbrev pub label_written : Result Label TcFault → List ℕ → ℕ × List ℕ
label_written (Ok label) room = (done, put (label_text label) room)
label_written (Err fault) room = (fault_number fault, room)

abbrev pub frame_written : Option Rate → ℕ → List ℕ → ℕ × List ℕ
frame_written None frame room = (no_such_rate, room)
frame_written (Some rate) frame room =
    if nat_lt (length room) 11 then (no_room, room) else label_written (label_of_frame rate frame) room

-- the 11 bytes of label k of some that stand one behind another
abbrev pub slot : ℕ → List ℕ → List ℕ
slot k texts = take 11 (drop (11 * k) texts)

-- the labels of some frames one behind another, and behind them the room as it was
abbrev pub labels_put : Rate → List ℕ → List ℕ → List ℕ
labels_put rate frames room = flat_map (frame_text rate) frames ++ drop (11 * length frames) room

-- What reading so many bytes of labels into room for so many readings answers: 0, or that they aren't labels of 11
-- bytes, or that there is no room.
abbrev pub readings_fault : Option Rate → ℕ → ℕ → ℕ
readings_fault None bytes room = no_such_rate
readings_fault (Some rate) bytes room =
    if not (bytes % 11 == 0) then fault_number LabelForm else if nat_lt room (bytes / 11) then no_room else done

-- What writing the labels of some frames answers, and how it leaves the room.
abbrev pub LabelsWritten : Option Rate → List ℕ → List ℕ → ℕ × List ℕ → Type 0
LabelsWritten None frames room left = left ≡ (no_such_rate, room)
LabelsWritten (Some rate) frames room left =
    ((length room < 11 * length frames) × (left ≡ (no_room, room)))
    ⊎ ((11 * length frames ≤ length room) × ¬ (All (λ frame. frame < day_length rate) frames)
    × (left ≡ (fault_number FrameRange, room)))
    ⊎ ((11 * length frames ≤ length room) × All (λ frame. frame < day_length rate) frames
    × (left ≡ (done, labels_put rate frames room)))
