-- What an opening says of its database, once the tables were found and those of version 1 migrated.
use Rattle.std.proofs.Common.{◌≡◌, ◌≢◌, ◌⊎◌, inl, inr, ℤ, pos, IsTrue, Result, Ok, Err, refl, sym, ap, ◌∙◌, subst}
use Rattle.std.specs.Prelude.{OnOk, OnErr, IfErr}
use Rattle.sqlite_trees.specs.Tree.{Trees}
use Rattle.sqlite.specs.Effect.{Database}
use Rattle.sqlite.specs.State.{State, HasCleanDisk, IsLive, Survives}
use Rattle.channel_plan.specs.Refusal.{refused}
use Rattle.channel_plan.specs.declared.refusal.Code.{Code}
use Rattle.channel_plan.specs.declared.refusal.Code.TheVariants.{NotOurs, SchemaVersion, Unavailable}
use Rattle.channel_plan.specs.declared.refusal.Refusal.{Refusal}
use Rattle.channel_view_model.specs.Centre.{Centre}
use Rattle.station_tables_records.specs.OfficeRow.{HasVersion}
use Rattle.station_tables_statements.specs.First.{HasFirstSet, HoldsFirstSet, rows_of_first_tables}
use Rattle.station_tables_statements.specs.Rows.{Holds, HoldsSet, Stands, rows_of_tables}
use Rattle.station_tables_statements.specs.Calls.{HasCentreSchema, HasFirstSchema, HasKnownSchema}
use Rattle.station_tables_statements.specs.Standing.{IsAlone, IsFault, OnCode}
use Rattle.station_tables_writing.specs.Tables.{LeavesCommitted, MayLeave}
use Rattle.station_tables_opening.specs.declared.finding.Version.{Version}
use Rattle.station_tables_opening.specs.declared.finding.Version.TheVariants.{First, Second}
use Rattle.station_tables_opening.specs.Opening.{CommitsShown, HasTablesOf, IsCentreIn, IsCentreOf, database_in}
use Rattle.station_tables_opening.specs.Opening.{number_of, rows_at}
use Rattle.station_tables_opening.proofs.FindLemmas.{known_of}
use Rattle.station_tables_writing.proofs.StandLemmas.{leaves_alone}
use Rattle.station_tables_opening.specs.Opens.{Opens, RefusesToOpen}
use Rattle.station_tables_opening.specs.Left.{LeavesFound}
use Rattle.station_tables_opening.proofs.StopLemmas.{left_by, no_other, only_short, tables_of}

-- tables of version 2 that were found stand for their set
pub second_stands : (old new : State) → IsLive old → CommitsShown old new → IsCentreOf Second old.now
    → Stands new (rows_at Second old.now.trees)
second_stands old new live same centre =
    let holds : HoldsSet (rows_of_tables old.now.trees) old.now =
    record
    { centre = centre.0; sound = (live same.was_open).0; rows_are = refl; owned = centre.1; rules = centre.2 } in
    record {
      holds = subst (HoldsSet (rows_of_tables old.now.trees)) (sym same.now_is) holds;
      committed =
          same.committed_is ∙ sym same.now_is;
    }

-- those of version 1 that were found hold theirs
pub first_set : (old mid : State) → IsLive old → CommitsShown old mid → IsCentreOf First old.now
    → HasFirstSet mid (rows_at First old.now.trees)
first_set old mid live same centre clean held =
    let holds : HoldsFirstSet (rows_of_first_tables old.now.trees) old.now =
    record { first = centre.0; sound = (live same.was_open).0; rows_are = refl; owned = centre.1; rules = centre.2 }
    in
    subst (HoldsFirstSet (rows_of_first_tables old.now.trees)) (sym same.now_is) holds

module _ (old mid : State) (same : CommitsShown old mid) (early : HasCleanDisk old) where
  pub centre_then : HasTablesOf Second old → HasCentreSchema mid
  centre_then has clean held = ap (λ (d : Database). d.schema) same.now_is ∙ has early same.was_open

  pub first_then : HasTablesOf First old → HasFirstSchema mid
  first_then has clean held = ap (λ (d : Database). d.schema) same.now_is ∙ has early same.was_open

-- what a migration leaves that is refused
pub left_found : (old mid new : State) → CommitsShown old mid → LeavesCommitted mid new → LeavesFound old new
left_found old mid new same left =
    record { was_open = λ held. same.was_open; committed_is = λ held. inr (left.committed_is held ∙ same.committed_is) }

-- what it may leave in the middle of it
pub may_be : (old mid new : State) (P Q : Trees → Type 0) → HasCleanDisk mid → HasCleanDisk new → Survives old mid P
    → Survives mid new Q → (db : Trees) → new.may_leave db → old.may_leave db ⊎ (P db ⊎ Q db)
may_be old mid new P Q early clean one two db may = elim (two.crash clean db may) [
  | inl before ↦ elim (one.crash early db before) [ inl first ↦ inl first | inr found ↦ inr (inl found) ]
  | inr made ↦ inr (inr made)
]

pub no_more : {A P : Type 0} → A ⊎ (P ⊎ ⊥) → A ⊎ P
no_more (inl a) = inl a
no_more (inr (inl p)) = inr p
no_more (inr (inr none)) = absurd none

pub may_be_so : {A P Q R : Type 0} → (Q → R) → A ⊎ (P ⊎ Q) → A ⊎ (P ⊎ R)
may_be_so says (inl a) = inl a
may_be_so says (inr (inl p)) = inr (inl p)
may_be_so says (inr (inr q)) = inr (inr (says q))

-- the same, whether the store was open or not
either_way : {A Open P Q : Type 0} → A ⊎ ((Open × P) ⊎ Q) → A ⊎ (P ⊎ Q)
either_way (inl a) = inl a
either_way (inr (inl p)) = inr (inl p.1)
either_way (inr (inr q)) = inr (inr q)

one_way : {A Open P : Type 0} → A ⊎ (Open × P) → A ⊎ P
one_way (inl a) = inl a
one_way (inr p) = inr p.1

-- what holds of a refusal for its cause, and of another cause there is none
pub for_code : {X : Type 0} (r : Result X Code) {P : Type 0} (Q : Code → Type 0) → OnCode r NotOurs P → IfErr r IsFault
    → ((e : Code) → e ≡ NotOurs → P → Q e) → IfErr r (λ e. (e ≡ NotOurs) ⊎ (e ≡ SchemaVersion) → Q e)
for_code (Ok x) Q says fault then = tt
for_code (Err e) Q says fault then = by
  where
    by : (e ≡ NotOurs) ⊎ (e ≡ SchemaVersion) → Q e
    by (inl ours) = then e ours (says ours)
    by (inr version) = elim fault [
      | inl ours ↦ absurd (let no : NotOurs ≡ SchemaVersion = sym ours ∙ version in cc)
      | inr short ↦ absurd (let no : Unavailable ≡ SchemaVersion = sym short ∙ version in cc)
    ]

-- a fault is of no version
pub no_version : {X : Type 0} (r : Result X Code) (P : Type 0) → IfErr r IsFault → OnCode r SchemaVersion P
no_version (Ok x) P fault = tt
no_version (Err e) P fault = λ is. elim fault [
  | inl ours ↦ absurd (let no : NotOurs ≡ SchemaVersion = sym ours ∙ is in cc)
  | inr short ↦ absurd (let no : Unavailable ≡ SchemaVersion = sym short ∙ is in cc)
]

-- a stop leaves what a connection stands for, where it leaves nothing but what is committed
pub stands_alone : (s : State) (rows : Centre) → Stands s rows → IsAlone s → (left : Centre) → MayLeave s left
    → left ≡ rows
stands_alone s rows stands alone left may =
    sym may.2 ∙ ap rows_of_tables (alone may.0 may.1 ∙ ap (λ (d : Database). d.trees) stands.committed)
    ∙ stands.holds.rows_are

same_code : (e code : Code) → refused e ≡ refused code → e ≡ code
same_code e code is = ap (λ (r : Refusal). r.code) is

said : (e : Code) → (e ≡ SchemaVersion) ⊎ IsFault e
    → (refused e ≡ refused NotOurs) ⊎ ((refused e ≡ refused SchemaVersion) ⊎ (refused e ≡ refused Unavailable))
said e (inl version) = inr (inl (ap refused version))
said e (inr (inl ours)) = inl (ap refused ours)
said e (inr (inr short)) = inr (inr (ap refused short))

-- what an open says, of what it says clause by clause
module _ {X : Type 0} (old new : State) where
  pub opens_of : (r : Result X Code)
      → (HasCleanDisk new → (version : Version) → HasTablesOf version old
      → OnOk r (Stands new (rows_at version old.now.trees)))
      → (HasCleanDisk new → OnOk r (IsAlone new))
      → (HasKnownSchema old → HasCleanDisk new
      → OnOk r ((version : Version) × HasVersion (number_of version) (old.now.trees 0)))
      → OnOk r (Opens old new)
  opens_of (Ok x) rows alone found = record {
    rows = λ version has clean. rows clean version has;
    alone =
        λ version has clean left may. stands_alone new (rows_at version old.now.trees) (rows clean version has)
        (alone clean) left may;
    sets = λ version has clean. leaves_alone new _ (rows clean version has) (alone clean) clean;
    settled = alone;
    found = found;
  }
  opens_of (Err e) rows alone found = tt

  pub refuses_of : (r : Result X Code) → IsLive old
      → OnCode r SchemaVersion
      (HasKnownSchema old → HasCleanDisk new
      → (version : ℤ) × HasVersion version (old.now.trees 0) × (version ≢ pos 1) × (version ≢ pos 2))
      → OnCode r NotOurs
      (HasCleanDisk new → (version : Version) → HasTablesOf version old → IsCentreIn version old.now.trees → ⊥)
      → OnCode r NotOurs
      (HasKnownSchema old → HasCleanDisk new → (version : ℤ) → HasVersion version (old.now.trees 0)
      → (version ≡ pos 1) ⊎ (version ≡ pos 2))
      → IfErr r (λ e. (e ≡ SchemaVersion) ⊎ IsFault e)
      → (HasCleanDisk new → HasCleanDisk old)
      → (HasCleanDisk new → OnErr r (LeavesFound old new))
      → IfErr r
      (λ e. (e ≡ NotOurs) ⊎ (e ≡ SchemaVersion) → HasCleanDisk new → (db : Trees) → new.may_leave db
      → old.may_leave db ⊎ (IsTrue old.is_open × (db ≡ old.now.trees)))
      → (HasCleanDisk new → (version : Version) → HasTablesOf version old
      → OnErr r
      ((db : Trees) → new.may_leave db
      → old.may_leave db ⊎ ((IsTrue old.is_open × (db ≡ old.now.trees)) ⊎ Holds (rows_at version old.now.trees) db)))
      → IfErr r (λ e. RefusesToOpen old new (refused e))
  refuses_of (Ok x) live version ours known codes early before others stop = tt
  refuses_of (Err e) live version ours known codes early before others stop = record {
    refusal = said e codes;
    version = λ is. version (same_code e SchemaVersion is);
    opens = λ clean v has is.
        ap refused (only_short e codes
        (λ other. no_other v (database_in v old.now.trees) is (version other (known_of v old has) clean))
        (λ theirs. ours theirs clean v has is));
    ours = λ is. ours (same_code e NotOurs is);
    known = λ is. known (same_code e NotOurs is);
    before = before;
    others =
        λ either clean db may. one_way
        (others
        (elim either
        [ inl theirs ↦ inl (same_code e NotOurs theirs) | inr other ↦ inr (same_code e SchemaVersion other) ]) clean db
        may);
    stop = λ v has clean db may. either_way (stop clean v has db may);
    centres =
        λ v is held clean db may. left_by old live v is (early clean) held db
        (stop clean v (λ early opened. tables_of v old.now is) db may);
  }
