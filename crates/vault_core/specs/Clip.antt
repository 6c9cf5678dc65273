-- Part of the promise: clips: which one a request adds, and which one it retires.
use Rattle.std.specs.Prelude.{ℕ, ◌+◌, List, Bool, true, false, not, ◌&&◌, ◌==◌, nat_lt, nat_le, Option, Some, None}
use Rattle.std.specs.Prelude.{Result, Ok, Err, bytes_eq, if◌then◌else◌}
use Rattle.timecode.specs.Counting.{day_length}
use Rattle.timecode.specs.LabelReading.{reading_of_text as reading_of_label}
use Rattle.umid.specs.BasicUmid.{UmidParts, basic_umid}
use Rattle.umid.specs.Fault.{reading_of_text as reading_of_umid}
use Rattle.channel_plan.specs.declared.plan.PlanRow.{PlanRow}
use Rattle.vault_core.specs.Limits.{most_clips}
use Rattle.vault_core.specs.declared.tape.Tape.{Tape}
use Rattle.vault_core.specs.declared.clip.Clip.{Clip}
use Rattle.channel_plan.specs.declared.refusal.Code.{Code}
use Rattle.channel_plan.specs.declared.refusal.Code.TheVariants.{Label, Umid, UmidKnown, TitleForm, ClipRange, NoClip}
use Rattle.channel_plan.specs.declared.refusal.Code.TheVariants.{ClipRetired, RegisterFull}
use Rattle.channel_plan.specs.declared.refusal.Refusal.{Refusal}
use Rattle.channel_plan.specs.Refusal.{refused}
pub use Rattle.vault_core.specs.Title.{is_title, is_title_byte}
use Rattle.vault_core.specs.Own.{OwnSeen}
use Rattle.vault_core.specs.Tape.{of_tape}

-- one frame or more, none behind the day's last
abbrev pub is_clip_range : PlanRow → ℕ → ℕ → Bool
is_clip_range plan source_first frames = nat_lt 0 frames && nat_le (source_first + frames) (day_length plan.rate)

-- the 32 bytes of a clip's UMID
unfoldable pub umid_bytes : Clip → List ℕ
umid_bytes c = basic_umid c.umid

-- a clip has just this UMID
abbrev pub has_umid : UmidParts → Clip → Bool
has_umid umid c = bytes_eq (umid_bytes c) (basic_umid umid)

-- the clip on a tape that is there; the channel has `count` clips, and `is_known` says whether one has this UMID
abbrev pub clip_on : PlanRow → Bool → ℕ → List ℕ → UmidParts → ℕ → ℕ → Tape → Result Clip Refusal
clip_on plan is_known count title umid source_first frames t =
    if not (is_clip_range plan source_first frames) then Err (refused ClipRange) else
    if is_known then Err (refused UmidKnown) else
    if nat_le most_clips count then Err (refused RegisterFull) else
    Ok (record {
      n = count + 1;
      tape = t.n;
      title = title;
      umid = umid;
      src_first = source_first;
      frames = frames;
      retired = false;
    })

-- the clip that is added on the tape of this number, or the first refusal whose condition holds; a retired clip has its
-- UMID still
unfoldable pub clip_for : OwnSeen → ℕ → List ℕ → UmidParts → ℕ → ℕ → Result Clip Refusal
clip_for own tape title umid source_first frames =
    if not (is_title title) then Err (refused TitleForm) else
    of_tape (clip_on own.plan (own.clips.some (has_umid umid)) own.clips.count title umid source_first frames)
    (own.tapes.first (λ t. t.n == tape))

-- what is done with a value that is read, or the refusal of its fault
abbrev pub of_reading : {X F : Type 0} → (F → Code) → (X → Result Clip Refusal) → Result X F → Result Clip Refusal
of_reading code done (Ok x) = done x
of_reading code done (Err fault) = Err (refused (code fault))

-- the clip that a request adds: its first source frame is given by a label at the channel's rate, its UMID by
-- hexadecimal digits
unfoldable pub clip_of_texts : OwnSeen → ℕ → List ℕ → List ℕ → List ℕ → ℕ → Result Clip Refusal
clip_of_texts own tape title umid source_in frames =
    of_reading Label (λ source_first.
    of_reading Umid (λ u. clip_for own tape title u source_first frames) (reading_of_umid umid))
    (reading_of_label own.plan.rate source_in)

-- of the clip that is there, if there is one
abbrev pub of_clip : (Clip → Result Clip Refusal) → Option Clip → Result Clip Refusal
of_clip then_clip None = Err (refused NoClip)
of_clip then_clip (Some c) = then_clip c

-- a clip that is retired
abbrev pub as_retired : Clip → Result Clip Refusal
as_retired c = if c.retired then Err (refused ClipRetired) else Ok (record c { retired = true })

-- the clip of this number as it stands once it is retired, or the first refusal whose condition holds
unfoldable pub retired_clip : OwnSeen → ℕ → Result Clip Refusal
retired_clip own n = of_clip as_retired (own.clips.first (λ c. c.n == n))

-- what a call answers that retires a clip: its number
abbrev pub number_of_clip : Result Clip Refusal → Result ℕ Refusal
number_of_clip (Ok c) = Ok c.n
number_of_clip (Err e) = Err e
