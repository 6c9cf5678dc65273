-- What was unchanged is what it was.
use Rattle.std.proofs.Common.{◌≡◌, sym, ap, ◌∙◌, subst}
use Rattle.sqlite.specs.Effect.{Database}
use Rattle.sqlite.specs.State.{State, HasCleanDisk, IsUnchanged}
use Rattle.station_tables_statements.specs.Rows.{IsCentre, OwnsRows, rows_of_tables}
use Rattle.station_tables_statements.specs.Calls.{HasCentreSchema, HasCentre, set_in, OwnsRowsNow}

-- what was unchanged holds what it held
module _ (old new : State) (same : IsUnchanged old new) where
  pub same_set : set_in new ≡ set_in old
  same_set = ap (λ (d : Database). rows_of_tables d.trees) same.0.now_is

  pub centre_after : HasCleanDisk old → HasCentre old → HasCentre new
  centre_after early centre clean o = subst IsCentre (sym same.0.now_is) (centre early same.0.was_open)

  pub owned_after : HasCleanDisk old → OwnsRowsNow old → OwnsRowsNow new
  owned_after early owned clean o =
      subst (λ (d : Database). OwnsRows d.trees) (sym same.0.now_is) (owned early same.0.was_open)

  pub tables_after : HasCleanDisk old → HasCentreSchema old → HasCentreSchema new
  tables_after early ours clean o = ap (λ (d : Database). d.schema) same.0.now_is ∙ ours early same.0.was_open
