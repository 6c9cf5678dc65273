-- What a connection stands for, from call to call.
use Rattle.std.proofs.Common.{◌≡◌, Result, Ok, Err, OnOk, IfOk, sym, ◌∙◌, subst}
use Rattle.sqlite.specs.State.{State}
use Rattle.channel_view_model.specs.Centre.{Centre}
use Rattle.station_tables_statements.specs.Rows.{HoldsSet, Stands, StandsFor}
use Rattle.station_tables_statements.specs.Calls.{HasCentre}

pub keeps_centre : (s : State) (rows : Centre) → StandsFor s rows → HasCentre s
keeps_centre s rows stands clean o = (stands clean o).holds.centre

-- what was committed stands for the set that it held
pub stands_committed : (before after : State) (rows : Centre) → HoldsSet rows before.now → after.now ≡ before.now
    → after.committed ≡ before.now → Stands after rows
stands_committed before after rows holds now committed =
    record { holds = subst (HoldsSet rows) (sym now) holds; committed = committed ∙ sym now }

-- one connection stands for what another does, where all that is said of that one holds of it
pub moved : {before after : State} (rows : Centre) → ((P : State → Type 0) → P before → P after) → Stands before rows
    → Stands after rows
moved rows move stands = move (λ s. Stands s rows) stands

-- what a call that succeeded says besides
pub on_ok_so : {X E : Type 0} (r : Result X E) {Q P : Type 0} → OnOk r Q → (Q → P) → OnOk r P
on_ok_so (Ok x) is says = says is
on_ok_so (Err e) is says = tt

-- what holds of a call that succeeded, by what its success says
pub where_ok : {X E : Type 0} (r : Result X E) {Q : Type 0} (P : X → Type 0) → OnOk r Q → (Q → IfOk r P) → IfOk r P
where_ok (Ok x) P is says = says is
where_ok (Err e) P is says = tt
