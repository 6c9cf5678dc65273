-- Why bytes or a text are no basic UMID.
use Rattle.std.specs.Prelude.{◌≡◌, ◌≢◌, ℕ, ◌++◌, List, Bool, not, ◌&&◌, ◌==◌, codes, length, Result, Ok, Err}
use Rattle.std.specs.Prelude.{if◌then◌else◌}
use Rattle.std.specs.Fmt.{decimal}
use Rattle.hex.specs.Hex.{decode_of}
use Rattle.hex.specs.declared.error.FromHexError.{FromHexError}
use Rattle.umid.specs.BasicUmid.{UmidParts, IsBasicUmid, IsExtended, byte_at, parts_in}
use Rattle.umid.specs.declared.fault.UmidFault.{UmidFault}
use Rattle.umid.specs.declared.fault.UmidFault.TheVariants.{Length, Extended, NotUmid, HexText}

-- the number of a fault
abbrev pub fault_number : UmidFault → ℕ
fault_number Length = 11
fault_number Extended = 12
fault_number NotUmid = 13
fault_number HexText = 14

-- the name of a fault
abbrev pub fault_name : UmidFault → List ℕ
fault_name Length = codes "Length"
fault_name Extended = codes "Extended"
fault_name NotUmid = codes "NotUmid"
fault_name HexText = codes "HexText"

-- a fault as it is printed
abbrev pub fault_text : UmidFault → List ℕ
fault_text fault = decimal (fault_number fault) ++ codes " " ++ fault_name fault

-- The first fault of the bytes: an extended UMID is told before any other length, and that before what the bytes are.
abbrev pub IsFirstFault : List ℕ → UmidFault → Type 0
IsFirstFault bytes Extended = IsExtended bytes
IsFirstFault bytes Length = (¬ (IsExtended bytes)) × (length bytes ≢ 32)
IsFirstFault bytes NotUmid = (length bytes ≡ 32) × ((parts : UmidParts) → IsBasicUmid bytes parts → ⊥)
IsFirstFault bytes HexText = ⊥

-- the bytes are read as these parts, or refused for their first fault
abbrev pub IsReadingOf : List ℕ → Result UmidParts UmidFault → Type 0
IsReadingOf bytes (Ok parts) = IsBasicUmid bytes parts
IsReadingOf bytes (Err fault) = IsFirstFault bytes fault

-- the bytes of the universal label that are the same in each basic UMID, and the length byte
abbrev pub has_fixed_bytes : List ℕ → Bool
has_fixed_bytes bytes =
    byte_at bytes 1 == 0x06 && byte_at bytes 2 == 0x0a && byte_at bytes 3 == 0x2b && byte_at bytes 4 == 0x34
    && byte_at bytes 5 == 0x01 && byte_at bytes 6 == 0x01 && byte_at bytes 7 == 0x01
    && byte_at bytes 9 == 0x01 && byte_at bytes 10 == 0x01 && byte_at bytes 13 == 0x13

-- the reading that bytes have
unfoldable pub reading_of_bytes : List ℕ → Result UmidParts UmidFault
reading_of_bytes bytes =
    if length bytes == 64 && byte_at bytes 13 == 0x33 then Err Extended else
    if not (length bytes == 32) then Err Length else
    if has_fixed_bytes bytes then Ok (parts_in bytes) else Err NotUmid

-- and that of the bytes that hexadecimal digits spell
abbrev pub reading_of_decoded : Result (List ℕ) FromHexError → Result UmidParts UmidFault
reading_of_decoded (Ok bytes) = reading_of_bytes bytes
reading_of_decoded (Err fault) = Err HexText

unfoldable pub reading_of_text : List ℕ → Result UmidParts UmidFault
reading_of_text text = reading_of_decoded (decode_of text)
