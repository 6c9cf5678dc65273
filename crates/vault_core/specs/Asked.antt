-- What a command asks of its channel's tapes and clips, and the rows and counts that answer it.
use Rattle.std.specs.Prelude.{◌≡◌, ℕ, List, true, false, Option, Some, None, Result, Ok, Err, ◌==◌, bytes_eq}
use Rattle.std.specs.Prelude.{if◌then◌else◌}
use Rattle.std.specs.Option.{option_and_then}
use Rattle.umid.specs.BasicUmid.{UmidParts}
use Rattle.umid.specs.Fault.{reading_of_text}
use Rattle.umid.specs.declared.fault.UmidFault.{UmidFault}
use Rattle.vault_core.specs.declared.tape.Tape.{Tape}
use Rattle.vault_core.specs.declared.clip.Clip.{Clip}
use Rattle.vault_core.specs.declared.asked_tapes.TapesAsked.{TapesAsked}
use Rattle.vault_core.specs.declared.asked_tapes.TapesFound.{TapesFound}
use Rattle.vault_core.specs.declared.asked_clips.ClipsAsked.{ClipsAsked}
use Rattle.vault_core.specs.declared.asked_clips.ClipsFound.{ClipsFound}
use Rattle.vault_core.specs.declared.command.TapeCommand.{TapeCommand}
use Rattle.vault_core.specs.declared.command.TapeCommand.TheVariants as tapes
use Rattle.vault_core.specs.declared.command.ClipCommand.{ClipCommand}
use Rattle.vault_core.specs.declared.command.ClipCommand.TheVariants as clips
use Rattle.vault_core.specs.Questions.{Questions}
use Rattle.vault_core.specs.Tape.{is_barcode, stands_in}
use Rattle.vault_core.specs.Clip.{has_umid}

abbrev pub nothing_asked : TapesAsked
nothing_asked = record { count = false; number = None; barcode = None; slot = None }

-- Of a new tape: how many there are, which one has its barcode, which one stands in its slot. A text that is no barcode
-- is refused whatever the rows are.
unfoldable pub asked_for_tape : List ℕ → ℕ → TapesAsked
asked_for_tape barcode slot = if is_barcode barcode
    then record { count = true; number = None; barcode = Some barcode; slot = Some slot } else nothing_asked

-- Of a tape to pull: which one has its number.
abbrev pub asked_for_pull : ℕ → TapesAsked
asked_for_pull n = record nothing_asked { number = Some n }

-- Of a tape to shelve: which one has its number, and which one stands in the slot.
abbrev pub asked_for_shelve : ℕ → ℕ → TapesAsked
asked_for_shelve n slot = record nothing_asked { number = Some n; slot = Some slot }

-- Of the tapes, for a new clip: which one has the number of its tape.
abbrev pub asked_for_clip : ℕ → TapesAsked
asked_for_clip tape = record nothing_asked { number = Some tape }

-- What is asked is answered as the reading has it. What isn't asked is none.
pub record AreTapeAnswers (asked : TapesAsked) (tapes : Questions Tape) (found : TapesFound) : Type 0 where
  pub count : found.count ≡ (if asked.count then tapes.count else 0)
  pub with_number : found.with_number ≡ option_and_then (λ n. tapes.first (λ t. t.n == n)) asked.number
  pub with_barcode : found.with_barcode
      ≡ option_and_then (λ barcode. tapes.first (λ t. bytes_eq t.barcode barcode)) asked.barcode
  pub in_slot : found.in_slot ≡ option_and_then (λ slot. tapes.first (λ t. stands_in slot t.slot)) asked.slot

abbrev pub no_clips_asked : ClipsAsked
no_clips_asked = record { count = false; number = None; umid = None }

-- Of a new clip: how many there are, and which one has its UMID, where it is one.
abbrev pub clips_asked_for_clip : Option UmidParts → ClipsAsked
clips_asked_for_clip umid = record { count = true; number = None; umid = umid }

abbrev pub read_umid : Result UmidParts UmidFault → Option UmidParts
read_umid (Ok umid) = Some umid
read_umid (Err fault) = None

abbrev pub clips_asked_for_texts : List ℕ → ClipsAsked
clips_asked_for_texts umid = clips_asked_for_clip (read_umid (reading_of_text umid))

-- Of a clip to retire: which one has its number.
abbrev pub clips_asked_for_retire : ℕ → ClipsAsked
clips_asked_for_retire n = record no_clips_asked { number = Some n }

pub record AreClipAnswers (asked : ClipsAsked) (clips : Questions Clip) (found : ClipsFound) : Type 0 where
  pub count : found.count ≡ (if asked.count then clips.count else 0)
  pub with_number : found.with_number ≡ option_and_then (λ n. clips.first (λ c. c.n == n)) asked.number
  pub with_umid : found.with_umid ≡ option_and_then (λ umid. clips.first (has_umid umid)) asked.umid

-- What each command asks.
abbrev pub tapes_asked : TapeCommand → TapesAsked
tapes_asked (tapes.Add barcode slot) = asked_for_tape barcode slot
tapes_asked (tapes.Pull n) = asked_for_pull n
tapes_asked (tapes.Shelve n slot) = asked_for_shelve n slot

abbrev pub tapes_asked_for_clips : ClipCommand → TapesAsked
tapes_asked_for_clips (clips.Add tape title umid source_in frames) = asked_for_clip tape
tapes_asked_for_clips (clips.Retire n) = nothing_asked

abbrev pub clips_asked : ClipCommand → ClipsAsked
clips_asked (clips.Add tape title umid source_in frames) = clips_asked_for_texts umid
clips_asked (clips.Retire n) = clips_asked_for_retire n
