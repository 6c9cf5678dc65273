-- A tape that is added, pulled or shelved, by the rows and counts that answer what it asks.
use Rattle.std.proofs.Common.{◌≡◌, ℕ, ◌+◌, List, true, false, refl, sym, ◌∙◌, ap}
use Rattle.std.specs.Prelude.{Bool, not, ◌||◌, ◌==◌, nat_lt, nat_le, bytes_eq, is_some, Option, Some, None, Result, Ok}
use Rattle.std.specs.Prelude.{Err, if◌then◌else◌}
use Rattle.channel_plan.specs.declared.plan.PlanRow.{PlanRow}
use Rattle.vault_core.specs.declared.tape.Tape.{Tape}
use Rattle.vault_core.specs.declared.asked_tapes.TapesFound.{TapesFound}
use Rattle.channel_plan.specs.declared.refusal.Refusal.{Refusal}
use Rattle.channel_plan.specs.declared.refusal.Code.TheVariants.{BadSlot, SlotTaken, BarcodeKnown, BarcodeForm}
use Rattle.channel_plan.specs.declared.refusal.Code.TheVariants.{VaultFull}
use Rattle.channel_plan.specs.Refusal.{refused}
use Rattle.vault_core.specs.Questions.{IsConsistent}
use Rattle.vault_core.specs.Own.{OwnSeen}
use Rattle.vault_core.specs.Tape.{is_barcode, stands_in, tape_for, of_tape, as_pulled, pulled, shelved_in, shelved}
use Rattle.vault_core.specs.Asked.{asked_for_tape, asked_for_pull, asked_for_shelve, AreTapeAnswers}

-- what was read
pub read_fails : (b : Bool) (text : List ℕ) (read : Option (List ℕ)) → read ≡ (if b then Some text else None)
    → read ≡ None → b ≡ false
read_fails true text read is none = absurd (let no = sym is ∙ none in cc)
read_fails false text read is none = refl

pub read_is : (b : Bool) (text found : List ℕ) (read : Option (List ℕ)) → read ≡ (if b then Some text else None)
    → read ≡ Some found → (b ≡ true) × (found ≡ text)
read_is true text found read is some = (refl, cc)
read_is false text found read is some = absurd (let no = sym is ∙ some in cc)

turned : (b t : Bool) → b ≡ not t → b ≡ false → t ≡ true
turned b true is fails = refl
turned b false is fails = absurd (let no = sym is ∙ fails in cc)

kept : (b t : Bool) → b ≡ not t → b ≡ true → t ≡ false
kept b true is passes = absurd (let no = sym is ∙ passes in cc)
kept b false is passes = refl

-- of a text that is no barcode
no_barcode : (own : OwnSeen) (barcode : List ℕ) (slot : ℕ) → is_barcode barcode ≡ false
    → tape_for own barcode slot ≡ Err (refused BarcodeForm)
unfolding tape_for
no_barcode own barcode slot fails = rw fails refl

-- what the rows say of a barcode
pub record Says (own : OwnSeen) (barcode : List ℕ) (slot : ℕ) (found : TapesFound) : Type 0 where
  pub known : own.tapes.some (λ t. bytes_eq t.barcode barcode) ≡ is_some found.with_barcode
  pub taken : own.tapes.some (λ t. stands_in slot t.slot) ≡ is_some found.in_slot
  pub count : own.tapes.count ≡ found.count

says : (own : OwnSeen) (barcode : List ℕ) (slot : ℕ) (found : TapesFound) → is_barcode barcode ≡ true
    → IsConsistent own.tapes → AreTapeAnswers (asked_for_tape barcode slot) own.tapes found
    → Says own barcode slot found
unfolding asked_for_tape
says own barcode slot found is consistent answers =
    let asked : AreTapeAnswers (record { count = true; number = None; barcode = Some barcode; slot = Some slot })
    own.tapes found = rw is at answers in
    record {
      known = consistent.some (λ t. bytes_eq t.barcode barcode) ∙ ap is_some (sym asked.with_barcode);
      taken = consistent.some (λ t. stands_in slot t.slot) ∙ ap is_some (sym asked.in_slot);
      count = sym asked.count;
    }

-- the tests of a barcode, by the rows and counts alone
abbrev pub tape_by : PlanRow → List ℕ → ℕ → TapesFound → Result Tape Refusal
tape_by plan barcode slot found =
    if slot == 0 || nat_lt plan.slots slot then Err (refused BadSlot) else
    if is_some found.with_barcode then Err (refused BarcodeKnown) else
    if is_some found.in_slot then Err (refused SlotTaken) else
    if nat_le 9999 found.count then Err (refused VaultFull) else
    Ok (record { n = found.count + 1; barcode = barcode; slot = Some slot })

tape_is : (own : OwnSeen) (plan : PlanRow) (barcode : List ℕ) (slot : ℕ) (found : TapesFound) → own.plan ≡ plan
    → is_barcode barcode ≡ true → IsConsistent own.tapes → AreTapeAnswers (asked_for_tape barcode slot) own.tapes found
    → tape_by plan barcode slot found ≡ tape_for own barcode slot
unfolding tape_for
tape_is own plan barcode slot found plan_is is consistent answers =
    let s = says own barcode slot found is consistent answers in
    rw is (λ i. if slot == 0 || nat_lt (sym plan_is i).slots slot then Err (refused BadSlot) else
    if sym s.known i then Err (refused BarcodeKnown) else
    if sym s.taken i then Err (refused SlotTaken) else
    if nat_le 9999 (sym s.count i) then Err (refused VaultFull) else
    Ok (record { n = sym s.count i + 1; barcode = barcode; slot = Some slot }))

-- once the text was read as a barcode, these tests decide
pub read_tape_is : (plan : PlanRow) (barcode : List ℕ) (slot : ℕ) (found : TapesFound) (read : Option (List ℕ))
    (text : List ℕ)
    → read ≡ (if is_barcode barcode then Some barcode else None) → read ≡ Some text
    → (own : OwnSeen) → own.plan ≡ plan → IsConsistent own.tapes
    → AreTapeAnswers (asked_for_tape barcode slot) own.tapes found
    → tape_by plan text slot found ≡ tape_for own barcode slot
read_tape_is plan barcode slot found read text is some own plan_is consistent answers =
    let known = read_is (is_barcode barcode) barcode text read is some in
    ap (λ (t : List ℕ). tape_by plan t slot found) known.1
    ∙ tape_is own plan barcode slot found plan_is known.0 consistent answers

-- a text that wasn't
pub unread_tape_is : (barcode : List ℕ) (slot : ℕ) (read : Option (List ℕ))
    → read ≡ (if is_barcode barcode then Some barcode else None) → read ≡ None → (own : OwnSeen)
    → Err (refused BarcodeForm) ≡ tape_for own barcode slot
unread_tape_is barcode slot read is none own =
    sym (no_barcode own barcode slot (read_fails (is_barcode barcode) barcode read is none))

-- the exits of the tests
pub bad_slot : (plan : PlanRow) (text : List ℕ) (slot : ℕ) (found : TapesFound) (b : Bool)
    → b ≡ not (slot == 0 || nat_lt plan.slots slot) → b ≡ false → Err (refused BadSlot) ≡ tape_by plan text slot found
bad_slot plan text slot found b is fails = rw (turned b _ is fails) refl

module _ (plan : PlanRow) (text : List ℕ) (slot : ℕ) (found : TapesFound) (b : Bool)
    (is : b ≡ not (slot == 0 || nat_lt plan.slots slot)) (passes : b ≡ true) where
  pub barcode_known : is_some found.with_barcode ≡ true → Err (refused BarcodeKnown) ≡ tape_by plan text slot found
  barcode_known known = rw (kept b _ is passes, known) refl

  pub slot_taken : is_some found.with_barcode ≡ false → is_some found.in_slot ≡ true
      → Err (refused SlotTaken) ≡ tape_by plan text slot found
  slot_taken unknown taken = rw (kept b _ is passes, unknown, taken) refl

  module _ (unknown : is_some found.with_barcode ≡ false) (free : is_some found.in_slot ≡ false) (r : Bool)
      (room_is : r ≡ not (nat_le 9999 found.count)) where
    pub vault_full : r ≡ false → Err (refused VaultFull) ≡ tape_by plan text slot found
    vault_full full = rw (kept b _ is passes, unknown, free, turned r _ room_is full) refl

    pub tape_made : r ≡ true
        → Ok (record { n = found.count + 1; barcode = text; slot = Some slot }) ≡ tape_by plan text slot found
    tape_made room = rw (kept b _ is passes, unknown, free, kept r _ room_is room) refl

-- a tape that is pulled or shelved
pub pulled_is : (own : OwnSeen) (n : ℕ) (found : TapesFound) → AreTapeAnswers (asked_for_pull n) own.tapes found
    → of_tape as_pulled found.with_number ≡ pulled own n
unfolding pulled
pulled_is own n found answers = ap (of_tape as_pulled) answers.with_number

pub shelved_is : (own : OwnSeen) (plan : PlanRow) (n slot : ℕ) (found : TapesFound) → own.plan ≡ plan
    → IsConsistent own.tapes → AreTapeAnswers (asked_for_shelve n slot) own.tapes found
    → of_tape (shelved_in plan slot (is_some found.in_slot)) found.with_number ≡ shelved own n slot
unfolding shelved
shelved_is own plan n slot found plan_is consistent answers =
    let taken : is_some found.in_slot ≡ own.tapes.some (λ t. stands_in slot t.slot) =
    ap is_some answers.in_slot ∙ sym (consistent.some (λ t. stands_in slot t.slot)) in
    λ i. of_tape (shelved_in (sym plan_is i) slot (taken i)) (answers.with_number i)
