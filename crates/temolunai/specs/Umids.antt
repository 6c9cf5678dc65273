-- UMIDs as C gets them.
use Rattle.std.specs.Prelude.{ℕ, List, length, Result, Ok, Err, nat_lt, if◌then◌else◌}
use Rattle.hex.specs.Hex.{encode_lower}
use Rattle.umid.specs.BasicUmid.{UmidParts, basic_umid, material_number_method, instance_number_method}
use Rattle.umid.specs.Fault.{fault_number}
use Rattle.umid.specs.declared.fault.UmidFault.{UmidFault}
use Rattle.temolunai.specs.Numbers.{done, no_room, instance_range}
use Rattle.temolunai.specs.Rooms.{put}
use Rattle.temolunai.specs.declared.umids.UmidRead.{UmidRead}

-- whether bytes are a UMID: 0, or the number of their fault
abbrev pub fault_of : Result UmidParts UmidFault → ℕ
fault_of (Ok parts) = done
fault_of (Err fault) = fault_number fault

-- the parts of a UMID but its material number, or the fault
abbrev pub umid_read : Result UmidParts UmidFault → UmidRead
umid_read (Ok parts) = record {
  fault = done;
  instance = parts.instance_number;
  version = parts.version;
  material_type = parts.material_type;
  material_number_method = material_number_method parts;
  instance_number_method = instance_number_method parts;
}
umid_read (Err fault) = record {
  fault = fault_number fault;
  instance = 0;
  version = 0;
  material_type = 0;
  material_number_method = 0;
  instance_number_method = 0;
}

-- What writing something of a UMID answers, and how it leaves the room: of so many bytes or more, else nothing is
-- written.
abbrev pub umid_written : ℕ → (UmidParts → List ℕ) → Result UmidParts UmidFault → List ℕ → ℕ × List ℕ
umid_written size text (Ok parts) room =
    if nat_lt (length room) size then (no_room, room) else (done, put (text parts) room)
umid_written size text (Err fault) room = (fault_number fault, room)

-- its 32 bytes, its 64 digits in lower case, its material number
abbrev pub digits_of : UmidParts → List ℕ
digits_of parts = encode_lower (basic_umid parts)

abbrev pub with_instance : ℕ → UmidParts → UmidParts
with_instance number parts = record parts { instance_number = number }

-- the same with another instance number, which is below 2^24
abbrev pub instance_written : ℕ → Result UmidParts UmidFault → List ℕ → ℕ × List ℕ
instance_written number umid room =
    if nat_lt number 16_777_216
    then umid_written 32 (λ parts. basic_umid (with_instance number parts)) umid room
    else (instance_range, room)
