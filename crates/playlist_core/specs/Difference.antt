-- What a broadcast day has that another hasn't.
use Rattle.std.specs.Prelude.{◌≡◌, Bool, true, false, not, ◌&&◌, ◌==◌, List, filter}
use Rattle.std.specs.List.{list_any}
use Rattle.playlist_core.specs.declared.item.Item.{Item}
use Rattle.playlist_core.specs.declared.item.EditKind.{EditKind}
use Rattle.playlist_core.specs.declared.item.EditKind.TheVariants.{Cut, Dissolve, Wipe}
use Rattle.playlist_core.specs.declared.source.Source.{Source}
use Rattle.playlist_core.specs.declared.source.Source.TheVariants.{Black, Bars, Own, Lent}
use Rattle.playlist_core.specs.declared.day.DayState.{DayState}
use Rattle.playlist_core.specs.Day.{Day, KeepsDayRules}

-- Two items are one where all their fields are.

abbrev pub same_source : Source → Source → Bool
same_source Black Black = true
same_source Bars Bars = true
same_source (Own m) (Own n) = m == n
same_source (Lent owner m) (Lent other n) = owner == other && m == n
same_source _ _ = false

abbrev pub same_kind : EditKind → EditKind → Bool
same_kind Cut Cut = true
same_kind Dissolve Dissolve = true
same_kind (Wipe m) (Wipe n) = m == n
same_kind _ _ = false

abbrev pub same_item : Item → Item → Bool
same_item a b =
    a.n == b.n && (a.pos == b.pos && (a.frames == b.frames && (same_source a.src b.src
    && (a.src_first == b.src_first && (same_kind a.kind b.kind && a.mix == b.mix)))))

-- whether this is one of the items
abbrev pub is_among : List Item → Item → Bool
is_among items item = list_any (λ i. same_item i item) items

-- the items that aren't among others
abbrev pub not_among : List Item → List Item → List Item
not_among others items = filter (λ i. not (is_among others i)) items

-- A day after a command, as it is, and its state before. For a store that writes rows: the items that it deletes and
-- those that it inserts, by their positions.
pub record ChangedDay : Type 0 where
  pub day : Day
  pub was : DayState
  pub deleted : List Item
  pub inserted : List Item

-- a day that was another before
abbrev pub changed_day : Day → Day → ChangedDay
changed_day before after =
    record {
      day = after;
      was = before.state;
      deleted = not_among after.items before.items;
      inserted = not_among before.items after.items;
    }

-- it is what a day that kept the rules became
abbrev pub IsChange : ChangedDay → Type 0
IsChange change = (before : Day) × (KeepsDayRules before × (change ≡ changed_day before change.day))
