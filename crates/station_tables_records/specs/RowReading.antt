-- What a function makes of rows.
use Rattle.std.specs.Prelude.{◌≡◌, ◌⊎◌, Bool, true, false, List, Option, Some, None}
use Rattle.std.specs.Fn.{Shared, Mut, FnReturnsAt, ComputesOnPairs}
use Rattle.std.specs.List.{AllZip, Contains, IsAllAdjacentAnswer}
use denote.Ref.{Bor}
use Rattle.sqlite_value.specs.Order.{Row}
use Rattle.station_tables_records.specs.Content.{HaveRowids, AreApart}

-- a call at this row may give this value
abbrev pub ReadsAs : {F T : Type 0} → Shared F (Bor Row × Unit {0}) (Option T) → F → Row → T → Type 0
ReadsAs g read row value = FnReturnsAt g read row (Some value)

-- each row reads as the value in its place
abbrev pub ReadEach : {F T : Type 0} → Shared F (Bor Row × Unit {0}) (Option T) → F → List Row → List T → Type 0
ReadEach g read = AllZip (ReadsAs g read)

-- some row may read as nothing
pub record ReadsNone {F T : Type 0} (g : Shared F (Bor Row × Unit {0}) (Option T)) (read : F)
    (rows : List Row) : Type 0 where
  pub row : Row
  pub is_one : Contains rows row
  pub reads : FnReturnsAt g read row None

-- whether each value comes before the next, by the test that the function computes
abbrev pub AreInOrder : {B T : Type 0} → Mut B (Bor T × (Bor T × Unit {0})) Bool → B → List T → Bool → Type 0
AreInOrder {T = T} g is_before values answer = (before : T → T → Bool) → ComputesOnPairs g before is_before
    → IsAllAdjacentAnswer (λ a b found. found ≡ before a b) values answer

-- the rows of a table, each read as the value in its place: no rowid comes twice, and each value comes before the next
pub record ReadInOrder {F B T : Type 0} (reads : Shared F (Bor Row × Unit {0}) (Option T)) (read : F)
    (tests : Mut B (Bor T × (Bor T × Unit {0})) Bool) (is_before : B) (rows : List Row) (values : List T) : Type 0 where
  pub each : ReadEach reads read rows values
  pub apart : AreApart rows
  pub order : AreInOrder tests is_before values true

-- the rowids aren't integers that differ, or a row reads as nothing, or a value doesn't come before the next
abbrev pub ReadsNothing : {F B T : Type 0} → Shared F (Bor Row × Unit {0}) (Option T) → F
    → Mut B (Bor T × (Bor T × Unit {0})) Bool → B → List Row → Type 0
ReadsNothing {T = T} reads read tests is_before rows = (HaveRowids rows × AreApart rows → ⊥)
    ⊎ (ReadsNone reads read rows
    ⊎ ((values : List T) × ReadEach reads read rows values × AreInOrder tests is_before values false))
