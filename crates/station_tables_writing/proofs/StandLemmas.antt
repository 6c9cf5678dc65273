-- What a connection stands for where nothing was committed, and what a stop leaves of it.
use Rattle.std.proofs.Common.{◌≡◌, Result, Ok, Err, IfErr, OnErr, inl, inr, sym, ap, ◌∙◌, subst, arith}
use Rattle.std.specs.Result.{MatchResult}
use Rattle.sqlite_trees.specs.Tree.{Trees}
use Rattle.sqlite_schema.specs.declared.schema.Schema.{Schema}
use Rattle.sqlite.specs.Effect.{Database}
use Rattle.sqlite.specs.State.{State, HasCleanDisk, Survives}
use Rattle.channel_view_model.specs.Centre.{Centre}
use Rattle.station_tables_statements.specs.Rows.{Holds, HoldsSet, Stands, StandsFor}
use Rattle.station_tables_statements.specs.Standing.{IsAlone}
use Rattle.station_tables_writing.specs.Tables.{LeavesCommitted, LeavesSets}

-- where nothing was committed, the connection stands for what it stood for
pub stands_on : (old new : State) (rows : Centre) → LeavesCommitted old new → HasCleanDisk old → StandsFor old rows
    → StandsFor new rows
stands_on old new rows left early stands clean o =
    let s = stands early (left.was_open o) in
    let now : new.now ≡ old.now = left.now_is o ∙ s.committed in
    record { holds = subst (HoldsSet rows) (sym now) s.holds; committed = left.committed_is o ∙ s.committed ∙ sym now }

-- a database that holds a set has trees that hold it
pub trees_hold : (rows : Centre) (db : Database) → HoldsSet rows db → Holds rows db.trees
trees_hold rows db holds =
    subst (λ (tables : Schema). HoldsSet rows (record { schema = tables; trees = db.trees })) holds.centre.schema holds

-- what is said of an error is said where it was mapped to another
pub mapped_err : {X E F : Type 0} (r : Result X E) (s : Result X F) (R P : E → Type 0) {Q : Type 0}
    → MatchResult r (λ x. s ≡ Ok x) R → IfErr r P → ((e : E) → P e → Q) → OnErr s Q
mapped_err r (Ok y) R P cases says so = tt
mapped_err (Ok x) (Err f) R P cases says so = absurd (cc)
mapped_err (Err e) (Err f) R P cases says so = so e says

-- a stop leaves sets after a call that commits none but these
pub leaves_on : (old new : State) (P : Trees → Type 0) → ((db : Trees) → P db → (rows : Centre) × Holds rows db)
    → Survives old new P → LeavesSets old → LeavesSets new
leaves_on old new P says survives sets clean db may =
    let early : HasCleanDisk old = omega (arith, survives.clean, clean) in
    elim (survives.crash clean db may) [ inl before ↦ sets early db before | inr made ↦ says db made ]

pub leaves_kept : (old new : State) → Survives old new (λ _. ⊥) → LeavesSets old → LeavesSets new
leaves_kept old new = leaves_on old new (λ _. ⊥) (λ db none. absurd none)

-- and of what alone is left, and stands for a set
pub leaves_alone : (s : State) (rows : Centre) → Stands s rows → IsAlone s → LeavesSets s
leaves_alone s rows stands alone clean db may =
    let all : Holds rows s.now.trees = trees_hold rows s.now stands.holds in
    (rows, subst (Holds rows) (sym (alone db may ∙ ap (λ (d : Database). d.trees) stands.committed)) all)
