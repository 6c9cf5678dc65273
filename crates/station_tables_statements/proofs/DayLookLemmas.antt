-- What is read of the days of a channel.
use Rattle.std.proofs.Common.{◌≡◌, ℕ, List, [], ◌∷◌, true, false, ◌&&◌, refl, sym, ◌∙◌, ap, arith}
use Rattle.std.specs.Prelude.{◌==◌, find, filter, map, slice_get, Some, None, if◌then◌else◌}
use Rattle.std.specs.List.{AllByRecursion}
use Rattle.std.specs.Option.{option_map}
use Rattle.std.proofs.lemmas.Bool.Decides.{nat_tests}
use Rattle.sqlite.specs.State.{State}
use Rattle.channel_plan.specs.declared.plan.PlanRow.{PlanRow}
use Rattle.playlist_core.specs.Day.{Day, KeepsDayRules}
use Rattle.channel_view_model.specs.Tables.{of_channel, rows_of}
use Rattle.channel_view_model.specs.Days.{no_day, day_or, day_at}
use Rattle.station_tables_records.specs.MadeDays.{is_made_in}
use Rattle.station_tables_records.specs.TwoTables.{HasBothNow}
use Rattle.station_tables_records.specs.TablePairs.{aired_tables, day_tables}
use Rattle.station_tables_statements.specs.Calls.{HasCentre}

-- a centre has the tables of days
pub has_days : (s : State) → HasCentre s → HasBothNow day_tables s
has_days s centre =
    λ clean held. let is = centre clean held in record { schema = is.schema; first = is.days; second = is.items }

-- and those of what was aired
pub has_airings : (s : State) → HasCentre s → HasBothNow aired_tables s
has_airings s centre =
    λ clean held. let is = centre clean held in record { schema = is.schema; first = is.batches; second = is.lines }

-- the first of one number
first_made : (c n : ℕ) (days : List (ℕ × Day))
    → slice_get (filter (is_made_in c n n) days) 0 ≡ find (λ r. r.0 == c && r.1.number == n) days
first_made c n [] = refl
first_made c n (d ∷ ds) =
    let same : is_made_in c n n d ≡ (d.0 == c && d.1.number == n) = grind (arith, nat_tests) in
    ap (λ b. slice_get (if b then d ∷ filter (is_made_in c n n) ds else filter (is_made_in c n n) ds) 0) same
    ∙ elim (d.0 == c && d.1.number == n)
    as (λ b. slice_get (if b then d ∷ filter (is_made_in c n n) ds else filter (is_made_in c n n) ds) 0
    ≡ (if b then Some d else find (λ r. r.0 == c && r.1.number == n) ds)) [
      | true ↦ refl
      | false ↦ first_made c n ds
    ]

module _ (plan : PlanRow) (c n : ℕ) (days items : List (ℕ × Day)) (are : items ≡ filter (is_made_in c n n) days) where
  found_day : slice_get items 0 ≡ find (λ r. r.0 == c && r.1.number == n) days
  found_day = ap (λ rows. slice_get rows 0) are ∙ first_made c n days

  pub day_there : (row : ℕ × Day) → slice_get items 0 ≡ Some row → row.1 ≡ day_at plan (of_channel c days) n
  day_there row first = ap (λ o. day_or (no_day plan n) (option_map (λ r. r.1) o)) (sym first ∙ found_day)

  pub day_not_there : slice_get items 0 ≡ None → no_day plan n ≡ day_at plan (of_channel c days) n
  day_not_there first = ap (λ o. day_or (no_day plan n) (option_map (λ r. r.1) o)) (sym first ∙ found_day)

-- all days of a channel
pub all_made : (c : ℕ) (days : List (ℕ × Day)) → AllByRecursion (λ r. KeepsDayRules r.1) days
    → map (λ r. r.1) (filter (is_made_in c 1 99999) days) ≡ rows_of c days
all_made c [] each = refl
all_made c (d ∷ ds) each =
    let some = each.0.some in
    let most = each.0.digits in
    let same : is_made_in c 1 99999 d ≡ (d.0 == c) = grind (arith, nat_tests, some, most) in
    let rest = all_made c ds each.1 in
    ap (λ b. map (λ r. r.1) (if b then d ∷ filter (is_made_in c 1 99999) ds else filter (is_made_in c 1 99999) ds)) same
    ∙ elim (d.0 == c)
    as (λ b. map (λ r. r.1) (if b then d ∷ filter (is_made_in c 1 99999) ds else filter (is_made_in c 1 99999) ds)
    ≡ map (λ r. r.1) (if b then d ∷ filter (λ r. r.0 == c) ds else filter (λ r. r.0 == c) ds)) [
      | true ↦ ap (λ l. d.1 ∷ l) rest
      | false ↦ rest
    ]
