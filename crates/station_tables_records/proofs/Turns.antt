-- What the statements that write a day make of the rows, one after another: the items that go are deleted, and then the
-- new ones put in, each in its turn.
use Rattle.std.proofs.Common.{ℕ, Bool, List, [], ◌∷◌}
use Rattle.sqlite_keyed.specs.Lists.{insert_sorted, delete_where}
use Rattle.playlist_core.specs.declared.item.Item.{Item}
use Rattle.playlist_core.specs.Day.{Day}
use Rattle.station_tables_records.specs.declared.day_rows.ItemRow.{ItemRow}
use Rattle.playlist_core.specs.Difference.{not_among}
use Rattle.station_tables_records.specs.MadeDays.{item_cmp, DaySet, is_item_of, row_of_day, put_day, LacksItem}

-- without these items of a day
abbrev pub without_items : ℕ → ℕ → List Item → List (ℕ × ItemRow) → List (ℕ × ItemRow)
without_items c n [] rows = rows
without_items c n (i ∷ is) rows = without_items c n is (delete_where (is_item_of c n i.n) rows)

-- with these items of a day more
abbrev pub with_items : ℕ → ℕ → List Item → List (ℕ × ItemRow) → List (ℕ × ItemRow)
with_items c n [] rows = rows
with_items c n (i ∷ is) rows = with_items c n is (insert_sorted item_cmp (c, record { day = n; item = i }) rows)

-- each of these items has a number that the day lacks where its turn comes
abbrev pub AreNew : ℕ → ℕ → List Item → List (ℕ × ItemRow) → Type 0
AreNew c n [] rows = Unit {0}
AreNew c n (i ∷ is) rows =
    LacksItem c n i.n rows × AreNew c n is (insert_sorted item_cmp (c, record { day = n; item = i }) rows)

-- the items' rows with those of a day made these: the others taken out, the missing ones added
abbrev pub change_items : ℕ → ℕ → List Item → List Item → List (ℕ × ItemRow) → List (ℕ × ItemRow)
change_items c n old new rows = with_items c n (not_among old new) (without_items c n (not_among new old) rows)

-- the rows of both tables with a day in the place of the one with its number, whose items are `old`
abbrev pub put_rows : Bool → ℕ → List Item → Day → DaySet → DaySet
put_rows there c old new rows = record {
  days = put_day there c (row_of_day new) rows.days;
  items = change_items c new.number old new.items rows.items;
}
