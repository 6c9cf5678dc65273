-- Part of the promise: tapes: which one a request adds, and where it puts one that is there.
use Rattle.std.specs.Prelude.{ℕ, ◌+◌, List, Bool, not, ◌||◌, ◌==◌, nat_lt, nat_le, Option, Some, None, is_some, false}
use Rattle.std.specs.Prelude.{Result, Ok, Err, bytes_eq, if◌then◌else◌}
use Rattle.channel_plan.specs.declared.plan.PlanRow.{PlanRow}
use Rattle.vault_core.specs.Limits.{most_tapes}
use Rattle.vault_core.specs.declared.tape.Tape.{Tape}
use Rattle.channel_plan.specs.declared.refusal.Code.TheVariants.{BadSlot, SlotTaken, BarcodeKnown, BarcodeForm, NoTape}
use Rattle.channel_plan.specs.declared.refusal.Code.TheVariants.{TapeOut, TapeShelved, VaultFull}
use Rattle.channel_plan.specs.declared.refusal.Refusal.{Refusal}
use Rattle.channel_plan.specs.Refusal.{refused}
pub use Rattle.vault_core.specs.Barcode.{is_barcode, is_barcode_letter, is_reserved_reel, is_numbered}
use Rattle.vault_core.specs.Own.{OwnSeen}

-- whether a tape stands in a slot
abbrev pub stands_in : ℕ → Option ℕ → Bool
stands_in slot None = false
stands_in slot (Some s) = s == slot

-- slot 0, or one above the channel's
abbrev pub is_bad_slot : PlanRow → ℕ → Bool
is_bad_slot plan slot = slot == 0 || nat_lt plan.slots slot

-- the tape that is added, or the first refusal whose condition holds
unfoldable pub tape_for : OwnSeen → List ℕ → ℕ → Result Tape Refusal
tape_for own barcode slot =
    if not (is_barcode barcode) then Err (refused BarcodeForm) else
    if is_bad_slot own.plan slot then Err (refused BadSlot) else
    if own.tapes.some (λ t. bytes_eq t.barcode barcode) then Err (refused BarcodeKnown) else
    if own.tapes.some (λ t. stands_in slot t.slot) then Err (refused SlotTaken) else
    if nat_le most_tapes own.tapes.count then Err (refused VaultFull) else
    Ok (record { n = own.tapes.count + 1; barcode = barcode; slot = Some slot })

-- of the tape that is there, if there is one
abbrev pub of_tape : {X : Type 0} → (Tape → Result X Refusal) → Option Tape → Result X Refusal
of_tape then_tape None = Err (refused NoTape)
of_tape then_tape (Some t) = then_tape t

-- a tape taken out of its slot
abbrev pub as_pulled : Tape → Result Tape Refusal
as_pulled t = if is_some t.slot then Ok (record t { slot = None }) else Err (refused TapeOut)

-- the tape of this number as it stands once it is pulled, or the first refusal whose condition holds
unfoldable pub pulled : OwnSeen → ℕ → Result Tape Refusal
pulled own n = of_tape as_pulled (own.tapes.first (λ t. t.n == n))

-- a tape put into a slot, in which another stands or not
abbrev pub shelved_in : PlanRow → ℕ → Bool → Tape → Result Tape Refusal
shelved_in plan slot is_taken t =
    if is_bad_slot plan slot then Err (refused BadSlot) else
    if is_some t.slot then Err (refused TapeShelved) else
    if is_taken then Err (refused SlotTaken) else
    Ok (record t { slot = Some slot })

-- the tape of this number as it stands once it is shelved in this slot, or the first refusal whose condition holds
unfoldable pub shelved : OwnSeen → ℕ → ℕ → Result Tape Refusal
shelved own n slot =
    of_tape (shelved_in own.plan slot (own.tapes.some (λ t. stands_in slot t.slot))) (own.tapes.first (λ t. t.n == n))

-- what a call answers that moves a tape: its number
abbrev pub number_of_tape : Result Tape Refusal → Result ℕ Refusal
number_of_tape (Ok t) = Ok t.n
number_of_tape (Err e) = Err e
