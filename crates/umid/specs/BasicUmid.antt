-- The basic UMID of SMPTE ST 330. Its 32 bytes are counted from 1, as in the standard.
use Rattle.std.specs.Prelude.{◌≡◌, ℕ, ◌+◌, ◌-◌, ◌*◌, ◌/◌, ◌%◌, ◌^◌, ◌<◌, nat_lt, List, [], ◌∷◌, ◌++◌, length, drop}
use Rattle.std.specs.Prelude.{slice_index, Bool, ◌&&◌, ◌==◌}
use Rattle.std.specs.List.{list_all}

-- what may differ from one basic UMID to another
pub record UmidParts : Type 0 where
  -- byte 8: the version of the label's register
  pub version : ℕ
  -- byte 11
  pub material_type : ℕ
  -- byte 12: how the material number was made (high four bits), and the instance number (low four bits)
  pub creation_methods : ℕ
  -- bytes 14 to 16
  pub instance_number : ℕ
  -- bytes 17 to 32
  pub material_number : List ℕ

-- how the material number was made, and how the instance number was
abbrev pub material_number_method : UmidParts → ℕ
material_number_method parts = parts.creation_methods / 16

abbrev pub instance_number_method : UmidParts → ℕ
instance_number_method parts = parts.creation_methods % 16

-- an instance number as three bytes, the most significant first
abbrev pub instance_bytes : ℕ → List ℕ
instance_bytes n = n / 65536 ∷ n / 256 % 256 ∷ n % 256 ∷ []

-- the bytes of these parts
abbrev pub basic_umid : UmidParts → List ℕ
basic_umid parts =
    -- the universal label, bytes 1 to 12
    0x06 ∷ 0x0a ∷ 0x2b ∷ 0x34 ∷ 0x01 ∷ 0x01 ∷ 0x01 ∷ parts.version ∷ 0x01 ∷ 0x01 ∷ parts.material_type
    ∷ parts.creation_methods
    -- the length byte, 13: that many bytes follow
    ∷ 0x13
    -- the instance number, bytes 14 to 16, and the material number, bytes 17 to 32
    ∷ instance_bytes parts.instance_number ++ parts.material_number

-- these bytes are the basic UMID of these parts
pub record IsBasicUmid (bytes : List ℕ) (parts : UmidParts) : Type 0 where
  pub spelled : bytes ≡ basic_umid parts
  pub version : parts.version < 256
  pub material_type : parts.material_type < 256
  pub creation_methods : parts.creation_methods < 256
  pub instance_number : parts.instance_number < 2 ^ 24
  pub material_number : length parts.material_number ≡ 16

-- these are the parts of some 32 bytes
unfoldable pub is_umid : UmidParts → Bool
is_umid parts =
    nat_lt parts.version 256 && nat_lt parts.material_type 256 && nat_lt parts.creation_methods 256
    && nat_lt parts.instance_number (2 ^ 24)
    && length parts.material_number == 16 && list_all (λ b. nat_lt b 256) parts.material_number

-- byte n, counted from 1
abbrev pub byte_at : List ℕ → ℕ → ℕ
byte_at bytes n = slice_index bytes (n - 1)

-- what stands in the places of the five parts
abbrev pub parts_in : List ℕ → UmidParts
parts_in bytes = record {
  version = byte_at bytes 8;
  material_type = byte_at bytes 11;
  creation_methods = byte_at bytes 12;
  instance_number = 65536 * byte_at bytes 14 + 256 * byte_at bytes 15 + byte_at bytes 16;
  material_number = drop 16 bytes;
}

-- an extended UMID: 64 bytes, whose length byte says that 51 follow
pub record IsExtended (bytes : List ℕ) : Type 0 where
  pub count : length bytes ≡ 64
  pub follow : byte_at bytes 13 ≡ 0x33
