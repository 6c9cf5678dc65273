-- The table `tape`: a row of it as a channel and its tape. A row is its rowid and then its columns: ch, n, barcode,
-- slot.
use Rattle.std.specs.Prelude.{ℕ, Bool, true, ◌&&◌, ◌==◌, nat_lt, bytes_eq, List, [], ◌∷◌, Option, Some, None}
use Rattle.std.specs.declared.cmp.Ordering.{Ordering}
use Rattle.sqlite_value.specs.declared.value.Value.TheVariants.{Text as Words}
use Rattle.sqlite_value.specs.Order.{Row, column}
use Rattle.sqlite.specs.Values.{or_null}
use Rattle.vault_core.specs.declared.tape.Tape.{Tape}
use Rattle.vault_core.specs.Tape.{is_barcode, stands_in}
use Rattle.station_tables_records.specs.Table.{TypedTable}
use Rattle.station_tables_records.specs.Schema.{tape}
use Rattle.station_tables_records.specs.Columns.{table_of}
use Rattle.station_tables_records.specs.Numbered.{numbered_cmp, LacksNumber}
use Rattle.station_tables_records.specs.Values.{of_nat, nat_in, text_in, maybe_nat_in}

abbrev pub tape_of : Row → ℕ × Tape
tape_of r = (
  nat_in (column r 1),
  record { n = nat_in (column r 2); barcode = text_in (column r 3); slot = maybe_nat_in (column r 4) },
)

-- its columns, as they are put; the slot of a tape that is out is NULL
abbrev pub tape_row : ℕ × Tape → Row
tape_row t = of_nat t.0 ∷ of_nat t.1.n ∷ Words t.1.barcode ∷ or_null of_nat t.1.slot ∷ []

-- by channel, and then by number
abbrev pub tape_cmp : ℕ × Tape → ℕ × Tape → Ordering
tape_cmp = numbered_cmp (λ t. t.n)

abbrev pub tape_table : TypedTable (ℕ × Tape)
tape_table = table_of 2 tape tape_of tape_row tape_cmp

-- of this channel, with this barcode
abbrev pub is_tape_with : ℕ → List ℕ → ℕ × Tape → Bool
is_tape_with c barcode t = t.0 == c && bytes_eq t.1.barcode barcode

-- of this channel, in this slot
abbrev pub is_tape_in : ℕ → ℕ → ℕ × Tape → Bool
is_tape_in c slot t = t.0 == c && stands_in slot t.1.slot

-- no tape of channel ch has number n
abbrev pub LacksTape : ℕ → ℕ → List (ℕ × Tape) → Type 0
LacksTape = LacksNumber (λ t. t.n)

-- a slot of 16 bits, or none
abbrev pub slot_fits : Option ℕ → Bool
slot_fits None = true
slot_fits (Some slot) = nat_lt slot 65536

-- its numbers have 16 bits, and its barcode is one
abbrev pub tape_fits : ℕ × Tape → Bool
tape_fits t = nat_lt t.0 65536 && nat_lt t.1.n 65536 && is_barcode t.1.barcode && slot_fits t.1.slot
