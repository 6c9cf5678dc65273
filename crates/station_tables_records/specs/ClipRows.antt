-- The table `clip`: a row of it as a channel and its clip. A row is its rowid and then its columns: ch, n, tape, title,
-- umid, src_first, frames, retired. A UMID is its 32 bytes, and retired is 1 or 0.
use Rattle.std.specs.Prelude.{ℕ, Bool, ◌&&◌, ◌==◌, ◌^◌, nat_lt, List, [], ◌∷◌}
use Rattle.std.specs.declared.cmp.Ordering.{Ordering}
use Rattle.sqlite_value.specs.declared.value.Value.TheVariants.{Text as Words, Blob as Bytes}
use Rattle.sqlite_value.specs.Order.{Row, column}
use Rattle.umid.specs.BasicUmid.{UmidParts, is_umid, basic_umid, parts_in}
use Rattle.vault_core.specs.declared.clip.Clip.{Clip}
use Rattle.vault_core.specs.Clip.{is_title, has_umid}
use Rattle.station_tables_records.specs.Table.{TypedTable}
use Rattle.station_tables_records.specs.Schema.{clip}
use Rattle.station_tables_records.specs.Columns.{table_of}
use Rattle.station_tables_records.specs.Numbered.{numbered_cmp, LacksNumber}
use Rattle.station_tables_records.specs.Values.{of_nat, nat_in, text_in, bytes_in, of_bool, bool_in}

abbrev pub clip_of : Row → ℕ × Clip
clip_of r = (
  nat_in (column r 1),
  record {
    n = nat_in (column r 2);
    tape = nat_in (column r 3);
    title = text_in (column r 4);
    umid = parts_in (bytes_in (column r 5));
    src_first = nat_in (column r 6);
    frames = nat_in (column r 7);
    retired = bool_in (column r 8);
  },
)

-- its columns, as they are put
abbrev pub clip_row : ℕ × Clip → Row
clip_row t =
    of_nat t.0 ∷ of_nat t.1.n ∷ of_nat t.1.tape ∷ Words t.1.title ∷ Bytes (basic_umid t.1.umid)
    ∷ of_nat t.1.src_first ∷ of_nat t.1.frames ∷ of_bool t.1.retired ∷ []

-- by channel, and then by number
abbrev pub clip_cmp : ℕ × Clip → ℕ × Clip → Ordering
clip_cmp = numbered_cmp (λ t. t.n)

abbrev pub clip_table : TypedTable (ℕ × Clip)
clip_table = table_of 3 clip clip_of clip_row clip_cmp

-- of this channel, with this UMID
abbrev pub is_clip_with : ℕ → UmidParts → ℕ × Clip → Bool
is_clip_with c umid t = t.0 == c && has_umid umid t.1

-- no clip of channel ch has number n
abbrev pub LacksClip : ℕ → ℕ → List (ℕ × Clip) → Type 0
LacksClip = LacksNumber (λ t. t.n)

-- the numbers of the channel and of the tape have 16 bits, the others 32; its title and its UMID are such
abbrev pub clip_fits : ℕ × Clip → Bool
clip_fits t =
    nat_lt t.0 65536 && nat_lt t.1.n (2 ^ 32) && nat_lt t.1.tape 65536 && is_title t.1.title && is_umid t.1.umid
    && nat_lt t.1.src_first (2 ^ 32) && nat_lt t.1.frames (2 ^ 32)
