-- What INSERT, UPDATE and DELETE by key make of a tree, step by step.
use Rattle.std.proofs.Common.{◌≡◌, ◌⊎◌, inl, inr, ℕ, ℤ, Bool, true, false, cond, List, [], ◌++◌, length, slice_get}
use Rattle.std.proofs.Common.{Option, Some, None, Ok, Err, Result, refl, sym, ap, ◌∙◌, subst}
use Rattle.std.specs.Prelude.{◌/◌}
use Rattle.sqlite_value.specs.declared.value.Value.{Value}
use Rattle.sqlite_value.specs.declared.value.Value.TheVariants.{Null, Int}
use Rattle.sqlite_value.specs.Order.{Row}
use Rattle.sqlite_trees.specs.Tree.{Trees}
use Rattle.sqlite_sql.specs.Ops.{unary}
use Rattle.sqlite_sql.specs.Term.{Term}
use Rattle.sqlite_schema.specs.declared.schema.Kind.TheVariants.{Integer}
use Rattle.sqlite_schema.specs.declared.schema.Table.{Table}
use Rattle.sqlite_schema.specs.declared.program.Program.{Program}
use Rattle.sqlite_schema.specs.declared.command.Command.TheVariants.{Insert, Update, Delete, CreateTable}
use Rattle.sqlite_schema.specs.declared.command.Source.TheVariants.{Values}
use Rattle.sqlite_rules.specs.declared.error.Rowids.TheVariants.{Chosen, Given}
use Rattle.sqlite_rules.specs.Cast.{cast}
use Rattle.sqlite_rules.specs.Calls.{ids_of}
use Rattle.sqlite_rules.specs.Edit.{Edit, edit_of, Applies}
use Rattle.sqlite_rules.specs.Action.{works}
use Rattle.sqlite.specs.Effect.{Database, Answers, value_rows}
use Rattle.sqlite.specs.Rows.{Written, Gives}
use Rattle.sqlite.specs.Does.{Tally, Does, AtPlace, OnRows, lacks_sequence, MakesTable, sequence_text}
use Rattle.std.specs.Prelude.{MatchBool}
use Rattle.sqlite_resolve.specs.Compile.{table_defined_by}
use Rattle.sqlite_catalog.specs.Change.{created, next_tree, KeepsRows}
use Rattle.sqlite.specs.declared.run.Mode.{Mode}
use Rattle.sqlite.proofs.Callers.{one_step}
use Rattle.station_tables_records.specs.Table.{plain_table}

either : (b : Bool) (x : Value) → cond b x x ≡ x
either true x = refl
either false x = refl

pub cast_null : cast Integer Null ≡ Null
unfolding unary
cast_null = either _ Null

pub cast_int : (n : ℤ) → cast Integer (Int n) ≡ Int n
unfolding unary
cast_int n = either _ (Int n)

-- a part that gave a value did not stop on the way
went : {B E R : Type 0} {b : B} {Stops : E → Type 0} → ((stop : E) × Stops stop × (Ok b ≡ Err stop)) ⊎ R → R
went (inl stopped) = absurd (let e = stopped.2 in cc)
went (inr on) = on

same_value : {B E : Type 0} {a b : B} → ◌≡◌ {A = Result B E} (Ok a) (Ok b) → a ≡ b
same_value e = cc

module _ (limit : Option ℕ) (mode : Mode) (params : Row) (db : Database) (text : List ℕ) (at : ℕ) (base : Table)
    (there : slice_get db.schema.tables at ≡ Some (plain_table base))
    (unworked : (tree : ℕ) (olds news : List Row) → works db.schema mode.keys 0 tree olds news ≡ []) (tally : Tally)
    (after : Database) where
  abbrev table : Table
  table = plain_table base

  abbrev Changes : Edit → Type 0
  Changes edit = (after.schema ≡ db.schema) × Applies db.schema mode.keys db.trees edit after.trees

  applied : (edit : Edit) (next : Trees)
      → Rattle.sqlite_rules.specs.Action.Writes db.schema mode.keys db.trees edit (Ok next)
      → after ≡ record { schema = db.schema; trees = next } → Changes edit
  applied edit next wrote now = (
    ap (λ (d : Database). d.schema) now,
    subst (Applies db.schema mode.keys db.trees edit)
        (sym (ap (λ (d : Database). d.trees) now))
        (one_step db.schema mode.keys db.trees next edit (unworked _ _ _) wrote),
  )

  pub does_insert : (terms : List Term) (width : ℕ)
      → Does limit mode params db text None (Insert at (Values terms width)) (Ok (tally, after))
      → Changes (edit_of db.trees table [] Chosen 0 (value_rows (params ++ []) width (length terms / width) terms))
  does_insert terms width h =
      let on : OnRows (record { limit = limit; keys = mode.keys; schema = db.schema; table = table; params = params })
      mode None (Insert at (Values terms width)) db.trees (Ok (tally, after)) =
      subst
      (λ o. AtPlace
      (λ t. OnRows (record { limit = limit; keys = mode.keys; schema = db.schema; table = t; params = params }) mode
      None (Insert at (Values terms width)) db.trees) o (Ok (tally, after))) there h in
      let done = went on in
      let now = ap (λ (p : Tally × Database). p.1) (same_value (went (went done.2).2).2) in
      let given = went done.1 in
      let counted = went given.2 in
      let written = went counted.2 in
      let ended = went written.2 in
      let trees : done.0.trees ≡ written.0 =
      ap (λ (it : Written). it.trees) (same_value ended.2) ∙ same_value ended.1 in
      let edit = edit_of db.trees table [] Chosen 0 given.0 in
      let made : Changes edit =
      applied edit written.0 written.1 (now ∙ ap (λ (t : Trees). record { schema = db.schema; trees = t }) trees) in
      subst (λ rows. Changes (edit_of db.trees table [] Chosen 0 rows)) given.1.1 made

  pub does_update : (q : Program) → Does limit mode params db text None (Update at q) (Ok (tally, after))
      → (rows : List Row) × Answers db q params rows × Changes (edit_of db.trees table (ids_of rows) Given 1 rows)
  does_update q h =
      let on : OnRows (record { limit = limit; keys = mode.keys; schema = db.schema; table = table; params = params })
      mode None (Update at q) db.trees (Ok (tally, after)) =
      subst
      (λ o. AtPlace
      (λ t. OnRows (record { limit = limit; keys = mode.keys; schema = db.schema; table = t; params = params }) mode
      None (Update at q) db.trees) o (Ok (tally, after))) there h in
      let done = went on in
      let now = ap (λ (p : Tally × Database). p.1) (same_value (went (went done.2).2).2) in
      let given = went done.1 in
      let written = went given.2 in
      let trees : done.0.trees ≡ written.0 = ap (λ (it : Written). it.trees) (same_value written.2) in
      let edit = edit_of db.trees table (ids_of given.0) Given 1 given.0 in (
        given.0,
        given.1,
        applied edit written.0 written.1
            (now ∙ ap (λ (t : Trees). record { schema = db.schema; trees = t }) trees),
      )

  pub does_delete : (q : Program) → Does limit mode params db text None (Delete at q) (Ok (tally, after))
      → (rows : List Row) × Answers db q params rows × Changes (edit_of db.trees table (ids_of rows) Given 0 [])
  does_delete q h =
      let on : OnRows (record { limit = limit; keys = mode.keys; schema = db.schema; table = table; params = params })
      mode None (Delete at q) db.trees (Ok (tally, after)) =
      subst
      (λ o. AtPlace
      (λ t. OnRows (record { limit = limit; keys = mode.keys; schema = db.schema; table = t; params = params }) mode
      None (Delete at q) db.trees) o (Ok (tally, after))) there h in
      let done = went on in
      let now = ap (λ (p : Tally × Database). p.1) (same_value (went (went done.2).2).2) in
      let given = went done.1 in
      let written = went given.2 in
      let trees : done.0.trees ≡ written.0 = ap (λ (it : Written). it.trees) (same_value written.2) in
      let edit = edit_of db.trees table (ids_of given.0) Given 0 [] in (
        given.0,
        given.1,
        applied edit written.0 written.1
            (now ∙ ap (λ (t : Trees). record { schema = db.schema; trees = t }) trees),
      )

-- CREATE TABLE
pub does_create : (limit : Option ℕ) (mode : Mode) (params : Row) (db : Database) (text : List ℕ) (table : Table)
    (tally : Tally) (after : Database) → table_defined_by text ≡ Ok table
    → lacks_sequence (created db.schema table) ≡ false
    → Does limit mode params db text None CreateTable (Ok (tally, after))
    → (after.schema ≡ created db.schema table) × (after.trees (next_tree db.schema) ≡ [])
    × KeepsRows db.schema.tables db.trees after.trees
does_create limit mode params db text table tally after defined plain h =
    let all = went h in
    let first = went all.1 in
    let made = first.1 in
    let both : Ok made.table ≡ Ok table = sym made.defined ∙ defined in
    let same : made.table ≡ table = cc in
    let schema : first.0.schema ≡ created db.schema table = made.is ∙ ap (created db.schema) same in
    let none : lacks_sequence first.0.schema ≡ false = ap lacks_sequence schema ∙ plain in
    let now : after ≡ first.0 =
    ap (λ (p : Tally × Database). p.1) (same_value all.2)
    ∙ same_value
    (subst (λ b. MatchBool b (MakesTable sequence_text first.0 (Ok all.0)) (Gives first.0 (Ok all.0))) none first.2)
    in (
      ap (λ (d : Database). d.schema) now ∙ schema,
      ap (λ (d : Database). d.trees (next_tree db.schema)) now
          ∙ made.empty,
      subst (λ (d : Database). KeepsRows db.schema.tables db.trees d.trees) (sym now) made.others,
    )
