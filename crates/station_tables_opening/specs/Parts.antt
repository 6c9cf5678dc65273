-- Rows of a table that are read channel by channel.
use Rattle.std.specs.Prelude.{◌≡◌, ℕ, ℤ, true, false, List, [], ◌++◌, map, filter}
use Rattle.std.specs.Prelude.{IsPermutation}
use Rattle.std.specs.List.{AllByRecursion}
use Rattle.sqlite_value.specs.declared.value.Value.TheVariants.{Int}
use Rattle.sqlite_value.specs.Order.{Row}
use Rattle.sqlite_trees.specs.Tree.{Trees, rowid}
use Rattle.channel_plan.specs.declared.plan.PlanRow.{PlanRow}
use Rattle.channel_view_model.specs.Rules.{is_planned}
use Rattle.station_tables_records.specs.Table.{TypedTable, HoldsRows}
use Rattle.station_tables_statements.specs.ByChannel.{is_channel, of_channel}

-- The table holds this list of a channel, whose rows have these rowids.
pub record HoldsChannel {T : Type 0} (t : TypedTable T) (c : ℕ) (list : List T) (ids : List ℤ) (trees : Trees)
    : Type 0 where
  pub rows : HoldsRows t list (of_channel c trees)
  pub ids_are : IsPermutation (map rowid (of_channel c trees t.base.tree)) (map Int ids)

-- A list with one behind it that a table holds of a channel, and so of their rowids.
pub record AddsChannel {T : Type 0} (t : TypedTable T) (c : ℕ) (trees : Trees) (old new : List T)
    (old_ids new_ids : List ℤ) : Type 0 where
  pub more : List T
  pub more_ids : List ℤ
  pub holds : HoldsChannel t c more more_ids trees
  pub list : new ≡ old ++ more
  pub ids : new_ids ≡ old_ids ++ more_ids

-- The rows of the plan's channels but for those that are left read as this list, with these rowids, in some order. No
-- other row is of these channels, and of those that are left none is missing.
pub record HoldsPart {T : Type 0} (t : TypedTable T) (all : List Row) (planned left : List PlanRow) (list : List T)
    (ids : List ℤ) : Type 0 where
  pub seen : List Row
  pub rest : List Row
  pub whole : IsPermutation all (seen ++ rest)
  pub read : AllByRecursion t.IsRow seen
  pub are : IsPermutation (map t.of seen) list
  pub ids_are : IsPermutation (map rowid seen) (map Int ids)
  pub later : AllByRecursion (λ p. filter (is_channel p.ch) rest ≡ filter (is_channel p.ch) all) left
  pub gone : (d : ℕ) → is_planned planned d ≡ true → is_planned left d ≡ false → filter (is_channel d) rest ≡ []

-- the channel of each row is planned
abbrev pub ArePlanned : {T : Type 0} → (T → ℕ) → List PlanRow → List T → Type 0
ArePlanned channel plan = AllByRecursion (λ r. is_planned plan (channel r) ≡ true)
