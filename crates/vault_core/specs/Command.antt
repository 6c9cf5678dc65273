-- Part of the promise: the commands on a channel's tapes and clips: the row that each puts, and what is said of one
-- that was done already.
use Rattle.std.specs.Prelude.{◌≡◌, ℕ, ◌+◌, List, true, length, find, ◌==◌, Some, Result}
use Rattle.std.specs.Bool.{⊤}
use Rattle.channel_plan.specs.declared.refusal.Code.{Code}
use Rattle.channel_plan.specs.declared.refusal.Code.TheVariants.{BarcodeKnown, TapeOut, TapeShelved, UmidKnown}
use Rattle.channel_plan.specs.declared.refusal.Code.TheVariants.{ClipRetired}
use Rattle.channel_plan.specs.declared.refusal.Refusal.{Refusal}
use Rattle.vault_core.specs.declared.tape.Tape.{Tape}
use Rattle.vault_core.specs.declared.clip.Clip.{Clip}
use Rattle.vault_core.specs.declared.offer.Offer.{Offer}
use Rattle.vault_core.specs.declared.command.Put.{Put}
use Rattle.vault_core.specs.declared.command.Put.TheVariants.{Added, Changed}
use Rattle.vault_core.specs.declared.command.TapeCommand.{TapeCommand}
use Rattle.vault_core.specs.declared.command.TapeCommand.TheVariants as tapes
use Rattle.vault_core.specs.declared.command.ClipCommand.{ClipCommand}
use Rattle.vault_core.specs.declared.command.ClipCommand.TheVariants as clips
use Rattle.vault_core.specs.Own.{Own, OwnSeen}
use Rattle.vault_core.specs.Questions.{replaced}
use Rattle.vault_core.specs.Tape.{tape_for, pulled, shelved}
use Rattle.vault_core.specs.Clip.{clip_of_texts, retired_clip}

-- the tape as a command leaves it, or the first refusal whose condition holds
abbrev pub tape_decided : OwnSeen → TapeCommand → Result Tape Refusal
tape_decided own (tapes.Add barcode slot) = tape_for own barcode slot
tape_decided own (tapes.Pull n) = pulled own n
tape_decided own (tapes.Shelve n slot) = shelved own n slot

abbrev pub tape_is_put : TapeCommand → Put
tape_is_put (tapes.Add barcode slot) = Added
tape_is_put (tapes.Pull n) = Changed
tape_is_put (tapes.Shelve n slot) = Changed

-- the refusal that says of a command that it was done already
abbrev pub tape_done : TapeCommand → Code
tape_done (tapes.Add barcode slot) = BarcodeKnown
tape_done (tapes.Pull n) = TapeOut
tape_done (tapes.Shelve n slot) = TapeShelved

-- the clip as a command leaves it, or the first refusal whose condition holds
abbrev pub clip_decided : OwnSeen → ClipCommand → Result Clip Refusal
clip_decided own (clips.Add tape title umid source_in frames) = clip_of_texts own tape title umid source_in frames
clip_decided own (clips.Retire n) = retired_clip own n

abbrev pub clip_is_put : ClipCommand → Put
clip_is_put (clips.Add tape title umid source_in frames) = Added
clip_is_put (clips.Retire n) = Changed

abbrev pub clip_done : ClipCommand → Code
clip_done (clips.Add tape title umid source_in frames) = UmidKnown
clip_done (clips.Retire n) = ClipRetired

-- own rows with a row put among those of its kind
abbrev pub tape_put : Tape → Own → Own
tape_put t own = record own { tapes = replaced (λ u. u.n) t own.tapes }

abbrev pub clip_put : Clip → Own → Own
clip_put k own = record own { clips = replaced (λ u. u.n) k own.clips }

abbrev pub offer_put : Offer → Own → Own
offer_put o own = record own { offers = replaced (λ u. u.n) o own.offers }

-- A row may be put among these: as one more it has the next number, else that of one that is there, of which it keeps
-- what may not change.
abbrev pub MayBePut : {R : Type 0} → (R → ℕ) → (R → R → Type 0) → Put → R → List R → Type 0
MayBePut number Keeps Added r rows = number r ≡ length rows + 1
MayBePut {R} number Keeps Changed r rows =
    (before : R) × (find (λ u. number u == number r) rows ≡ Some before) × Keeps before r

-- of a tape its slot and its barcode may change
abbrev pub TapeMayBePut : Put → Tape → Own → Type 0
TapeMayBePut put t own = MayBePut (λ u. u.n) (λ before after. ⊤) put t own.tapes

-- a clip may be retired
abbrev pub ClipMayBePut : Put → Clip → Own → Type 0
ClipMayBePut put k own = MayBePut (λ u. u.n) (λ before after. record before { retired = true } ≡ after) put k own.clips
