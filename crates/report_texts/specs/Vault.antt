-- The vault table: a line for each tape, by number, and one that counts them.
use Rattle.std.specs.Prelude.{ℕ, List, ◌++◌, Option, Some, None, length, codes, decimal}
use Rattle.std.specs.List.{flat_map}
use Rattle.channel_plan.specs.declared.plan.PlanRow.{PlanRow}
use Rattle.vault_core.specs.declared.tape.Tape.{Tape}
use Rattle.vault_core.specs.Rules.{slots_of}
use Rattle.report_texts.specs.Fields.{left_in, number_in}

-- the slot in which a tape stands, or that it is out
abbrev pub slot_field : Option ℕ → List ℕ
slot_field None = codes " out"
slot_field (Some slot) = number_in 4 slot

-- number, barcode, slot
abbrev pub tape_line : Tape → List ℕ
tape_line t = number_in 4 t.n
    ++ (codes " " ++ (left_in 8 t.barcode ++ (codes " " ++ (slot_field t.slot ++ codes "\n"))))

-- how many tapes there are, how many of them stand in a slot, and how many slots the channel has
abbrev pub vault_end : ℕ → ℕ → ℕ → List ℕ
vault_end tapes shelved slots =
    codes "TAPES " ++ (decimal tapes
    ++ (codes " SHELVED " ++ (decimal shelved ++ (codes " SLOTS " ++ (decimal slots ++ codes "\n")))))

abbrev pub vault_text : PlanRow → List Tape → List ℕ
vault_text plan tapes = flat_map tape_line tapes ++ vault_end (length tapes) (length (slots_of tapes)) plan.slots
