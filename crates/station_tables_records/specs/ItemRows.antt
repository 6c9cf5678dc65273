-- The table `item`: a row of it as a channel and its item's row. A row is its rowid and then its columns: ch, day, n,
-- pos, frames, src, src_first, kind, mix. A source is its reel, a kind its text.
use Rattle.std.specs.Prelude.{ℕ, Bool, ◌&&◌, ◌^◌, nat_lt, [], ◌∷◌, unwrap_or}
use Rattle.sqlite_value.specs.declared.value.Value.TheVariants.{Text as Words}
use Rattle.sqlite_value.specs.Order.{Row, column}
use Rattle.playlist_core.specs.declared.source.Source.TheVariants.{Black}
use Rattle.playlist_core.specs.declared.item.EditKind.TheVariants.{Cut}
use Rattle.playlist_core.specs.Source.{source_reel, source_of_reel}
use Rattle.playlist_core.specs.Item.{kind_text, kind_of}
use Rattle.station_tables_records.specs.declared.day_rows.ItemRow.{ItemRow}
use Rattle.station_tables_records.specs.MadeDays.{item_cmp, has_texts}
use Rattle.station_tables_records.specs.Table.{TypedTable}
use Rattle.station_tables_records.specs.Schema.{item}
use Rattle.station_tables_records.specs.Columns.{table_of}
use Rattle.station_tables_records.specs.Values.{of_nat, nat_in, text_in}

-- black, or a cut, where the text is none
abbrev pub item_of : Row → ℕ × ItemRow
item_of r = (
  nat_in (column r 1),
  record {
    day = nat_in (column r 2);
    item = record {
      n = nat_in (column r 3);
      pos = nat_in (column r 4);
      frames = nat_in (column r 5);
      src = unwrap_or (source_of_reel (text_in (column r 6))) Black;
      src_first = nat_in (column r 7);
      kind = unwrap_or (kind_of (text_in (column r 8))) Cut;
      mix = nat_in (column r 9);
    };
  },
)

-- its columns, as they are put
abbrev pub item_row : ℕ × ItemRow → Row
item_row t =
    of_nat t.0 ∷ of_nat t.1.day ∷ of_nat t.1.item.n ∷ of_nat t.1.item.pos ∷ of_nat t.1.item.frames
    ∷ Words (source_reel t.1.item.src)
    ∷ of_nat t.1.item.src_first ∷ Words (kind_text t.1.item.kind) ∷ of_nat t.1.item.mix ∷ []

-- the columns of its key
abbrev pub item_key : ℕ × ItemRow → Row
item_key t = of_nat t.0 ∷ of_nat t.1.day ∷ of_nat t.1.item.n ∷ []

-- in the order of the channels, of the days and of the numbers
abbrev pub item_table : TypedTable (ℕ × ItemRow)
item_table = table_of 6 item item_of item_row item_cmp

-- the numbers of the channel and of the item and its mix have 16 bits, the others 32, and its texts can be read
abbrev pub item_fits : ℕ × ItemRow → Bool
item_fits t =
    nat_lt t.0 65536 && nat_lt t.1.day (2 ^ 32) && nat_lt t.1.item.n 65536 && nat_lt t.1.item.pos (2 ^ 32)
    && nat_lt t.1.item.frames (2 ^ 32)
    && nat_lt t.1.item.src_first (2 ^ 32) && nat_lt t.1.item.mix 65536 && has_texts t.1.item
