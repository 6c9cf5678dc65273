-- What each kind of statement makes of a table, from the computation of its text.
use Rattle.std.proofs.Common.{◌≡◌, ◌≢◌, ◌⊎◌, inl, inr, ℕ, ℤ, Bool, true, false, not, ◌&&◌, cond, List, [], ◌∷◌, ◌++◌}
use Rattle.std.proofs.Common.{map, filter, length, None, Ok, refl, sym, ap, ◌∙◌, subst, arith, is_eq, IsPermutation}
use Rattle.std.proofs.Common.{true≢false}
use Rattle.std.specs.Prelude.{◌/◌, drop}
use Rattle.std.specs.List.{AllByRecursion}
use Rattle.std.proofs.lemmas.List.Sorted.{length_permutation, IsPermutation-sym}
use Rattle.sqlite_value.specs.declared.value.Value.TheVariants.{Null, Int}
use Rattle.sqlite_value.specs.declared.keys.Key.{Key}
use Rattle.sqlite_value.specs.Order.{Row}
use Rattle.sqlite_trees.specs.Tree.{rowid, put_row}
use Rattle.sqlite_sql.specs.Term.{Term, eval_all}
use Rattle.sqlite_sql.specs.Program.{IsProgramAnswer}
use Rattle.sqlite_schema.specs.declared.schema.Schema.{Schema}
use Rattle.sqlite_schema.specs.declared.schema.Table.{Table}
use Rattle.sqlite_schema.specs.declared.command.Command.{Command}
use Rattle.sqlite_schema.specs.declared.command.Command.TheVariants.{Insert, Update, Delete, Select, CreateTable}
use Rattle.sqlite_schema.specs.declared.command.Source.TheVariants.{Values}
use Rattle.sqlite_rules.specs.declared.error.Rowids.TheVariants.{Chosen, Given}
use Rattle.sqlite_rules.specs.Cast.{cast_row}
use Rattle.sqlite_rules.specs.Calls.{ids_of}
use Rattle.sqlite_rules.specs.Edit.{Edit, edit_of, numbered, next_rowid, id_in, without_all, is_taken, Applies}
use Rattle.sqlite_catalog.specs.Change.{created, next_tree, KeepsRows}
use Rattle.sqlite_keyed.specs.Lists.{insert_sorted, sort_by, update_where, delete_where}
use Rattle.sqlite_keyed.proofs.ListLemmas.{all_weaker, all-filter, filter_all, map-map, all_of}
use Rattle.sqlite.specs.Effect.{Database, IsDatabase, value_rows}
use Rattle.sqlite.specs.Listing.{understood, reads_listing}
use Rattle.sqlite.specs.Does.{Does, lacks_sequence}
use Rattle.sqlite.specs.State.{State, Shown, Writes, mode_of, ExecutesInside}
use Rattle.sqlite.proofs.Callers.{IsPlain, command_of, statement_of, runs_as, reads_as, one_permutation}
use Rattle.station_tables_records.specs.Plain.{plain_query, keeps}
use Rattle.station_tables_records.specs.Content.{IsTyped, content}
use Rattle.station_tables_records.specs.Table.{plain_table, TypedTable, IsTable, rows_in, IsTypedIn, LacksKeyOf}
use Rattle.station_tables_records.specs.Table.{ChangesTable, IsBare, MakesBare}
use Rattle.station_tables_records.proofs.Selects.{Means, Creates}
use Rattle.station_tables_records.proofs.ReadLemmas.{answer_permutes, filter_on, map_on}
use Rattle.station_tables_records.proofs.StatementLemmas.{does_insert, does_update, does_delete, does_create}
use Rattle.station_tables_records.proofs.WriteLemmas.{content_permutes, typed_from_answer, insert_typed, delete_typed}
use Rattle.station_tables_records.proofs.WriteLemmas.{update_typed, none_updated, none_passes, left_rows, at_most_one}

not_true : (b : Bool) → (not b && true) ≡ true → b ≡ false
not_true true e = absurd (true≢false (sym e))
not_true false e = refl

pub every_row : (params : Row) (rows : List Row) → filter (keeps params []) rows ≡ rows
every_row params [] = refl
every_row params (r ∷ rows) = ap (λ l. r ∷ l) (every_row params rows)

pub no_rows : {X : Type 0} (rows : List X) → IsPermutation [] rows → rows ≡ []
no_rows [] same = refl
no_rows (r ∷ rows) same = absurd (omega (arith, length_permutation _ _ same))

module _ {T : Type 0} (t : TypedTable T) (law : IsTable t) (old new : State) (has : old.now.schema ≡ t.schema)
    (text : List ℕ) (params : Row) (plain : IsPlain (understood t.schema text)) where
  abbrev all : List Row
  all = old.now.trees t.base.tree

  -- ---- SELECT

  -- a text without a filter shows each row, in some order
  pub shows_all : (project : List Term) (order : List (Term × Key)) (names : List (List ℕ))
      (is : command_of (understood t.schema text)
      ≡ Select (record { lets = []; body = plain_query t.base.tree [] project order }) names)
      (unlisted : reads_listing t.schema text ≡ false)
      (rows : List Row) → Shown text params old new rows
      → IsPermutation (map (λ (r : Row). eval_all project (params ∷ r ∷ [])) all) rows
  shows_all project order names is unlisted rows showed =
      let read = reads_as text params old new t.schema has _ is plain unlisted rows showed in
      subst (λ l. IsPermutation (map (λ (r : Row). eval_all project (params ∷ r ∷ [])) l) rows) (every_row params all)
      (answer_permutes t.base.tree [] project order old.now.trees params rows read.answer)

  -- Where the rows that a text without a filter shows are typed, the table is: so a table is tested by what it shows.
  pub finds : (project : List Term) (order : List (Term × Key)) (names : List (List ℕ))
      (is : command_of (understood t.schema text)
      ≡ Select (record { lets = []; body = plain_query t.base.tree [] project order }) names)
      (unlisted : reads_listing t.schema text ≡ false)
      (reads : (r : Row) → t.IsRow (eval_all project (params ∷ r ∷ [])) → t.IsRow r)
      (same : (r : Row) → t.of (eval_all project (params ∷ r ∷ [])) ≡ t.of r)
      (ids : (r : Row) → rowid (eval_all project (params ∷ r ∷ [])) ≡ rowid r)
      (rows : List Row) → Shown text params old new rows → IsTyped t.cmp t.of t.IsRow rows
      → IsTypedIn t old.now.trees × (rows_in t old.now.trees ≡ content t.cmp t.of rows)
  finds project order names is unlisted reads same ids rows showed typed =
      let cells = λ (r : Row). eval_all project (params ∷ r ∷ []) in
      let moved = shows_all project order names is unlisted rows showed in
      let found = typed_from_answer t.cmp law.total t.of t.IsRow cells reads same ids all rows moved typed in
      (found, shown_content cells same moved typed)
    where
      shown_content : (cells : Row → Row) → ((r : Row) → t.of (cells r) ≡ t.of r) → IsPermutation (map cells all) rows
          → IsTyped t.cmp t.of t.IsRow rows → content t.cmp t.of all ≡ content t.cmp t.of rows
      shown_content cells same moved typed =
          ap (sort_by t.cmp)
          (sym
          (map-map t.of cells all ∙ map_on (λ _. Unit {0}) _ t.of all (λ r _. same r) (all_of _ (λ _. tt) all)))
          ∙ content_permutes t.cmp law.total t.of t.IsRow rows (map cells all) (IsPermutation-sym _ _ moved) typed

  -- ---- writing

  abbrev was : Database
  was = record { schema = t.schema; trees = old.now.trees }

  abbrev statement : List ℕ
  statement = statement_of text (understood t.schema text)

  does : (command : Command) (count : ℕ) (w : Writes old new None command statement params count)
      → Does old.step_limit (mode_of old) params was statement None command (Ok (w.tally, new.now))
  does command count w =
      subst
      (λ s. Does old.step_limit (mode_of old) params (record old.now { schema = s }) statement None command
      (Ok (w.tally, new.now))) has w.changed

  -- INSERT of one row: it is put among the others, with a rowid that none of them has
  pub puts : (terms : List Term) (width : ℕ)
      (is : command_of (understood t.schema text) ≡ Insert t.place (Values terms width)) (made : Row)
      (news : numbered Chosen all
      (map (λ s. cast_row (plain_table t.base) s) (value_rows (params ++ []) width (length terms / width) terms))
      ≡ made ∷ []) (count : ℕ)
      → ExecutesInside 0 text params old new (Ok count)
      → (new.now.schema ≡ t.schema) × (is_taken all made ≡ false) × (new.now.trees t.base.tree ≡ put_row made all)
      × AllByRecursion (λ u. u.tree ≢ t.base.tree → new.now.trees u.tree ≡ old.now.trees u.tree) t.schema.tables
      × IsDatabase new.now
  puts terms width is made news count ran =
      let keys = (mode_of old).keys in
      let command = Insert t.place (Values terms width) in
      let w = runs_as text params old new t.schema has command is plain count ran.0 in
      let changed =
      does_insert old.step_limit (mode_of old) params was statement t.place t.base law.there (law.unworked keys)
      w.tally new.now terms width (does command count w) in
      let edit : List Row → Edit = λ news. record { table = plain_table t.base; gone = []; news = news } in
      let applied = subst (λ news. Applies t.schema keys old.now.trees (edit news) new.now.trees) news changed.1 in
      (changed.0, not_true _ applied.fresh, applied.rows, applied.tables, w.sound)

  -- INSERT of one row with a key of its own
  pub inserts : (terms : List Term) (width : ℕ)
      (is : command_of (understood t.schema text) ≡ Insert t.place (Values terms width)) (made : Row) (row : T)
      (news : numbered Chosen all
      (map (λ s. cast_row (plain_table t.base) s) (value_rows (params ++ []) width (length terms / width) terms))
      ≡ made ∷ [])
      (reads_back : (t.of made ≡ row) × t.IsRow made) (count : ℕ) → IsTypedIn t old.now.trees
      → LacksKeyOf t row (rows_in t old.now.trees)
      → ExecutesInside 0 text params old new (Ok count) → ChangesTable t (insert_sorted t.cmp row) old new
  inserts terms width is made row news reads_back count typed fresh ran =
      let p = puts terms width is made news count ran in
      let fresh_now = subst (λ v. LacksKeyOf t v (rows_in t old.now.trees)) (sym reads_back.0) fresh in
      let put = insert_typed t.cmp law.total t.of t.IsRow made all p.1 reads_back.1 fresh_now typed in
      record {
        schema_is = p.0;
        typed = subst (IsTyped t.cmp t.of t.IsRow) (sym p.2) put.0;
        rows_are =
            ap (content t.cmp t.of) p.2 ∙ put.1
            ∙ ap (λ v. insert_sorted t.cmp v (rows_in t old.now.trees)) reads_back.0;
        others = p.3;
        sound = p.4;
        shown = ran.1;
      }

  -- what a text by key finds
  module _ (terms project : List Term) (p : T → Bool)
      (tests : (r : Row) → t.IsRow r → keeps params terms r ≡ p (t.of r))
      (ties : (a b : T) → p a ≡ true → p b ≡ true → is_eq (t.cmp a b) ≡ true) where
    -- the one row with the key, or none
    by_key : (rows : List Row) → IsTypedIn t old.now.trees
        → IsProgramAnswer [] (plain_query t.base.tree terms project []) old.now.trees params rows
        → ((filter (λ r. p (t.of r)) all ≡ []) × (rows ≡ []))
        ⊎ ((found : Row) × (filter (λ r. p (t.of r)) all ≡ found ∷ [])
        × (rows ≡ eval_all project (params ∷ found ∷ []) ∷ []) × t.IsRow found)
    by_key rows typed answer =
        let shows = λ (r : Row). eval_all project (params ∷ r ∷ []) in
        let same = answer_permutes t.base.tree terms project [] old.now.trees params rows answer in
        let passed : filter (keeps params terms) all ≡ filter (λ r. p (t.of r)) all =
        filter_on t.IsRow _ _ all tests typed.read in
        let moved = subst (λ l. IsPermutation (map shows l) rows) passed same in
        elim (at_most_one t.cmp law.total t.of t.IsRow p ties all typed.keys) [
          | inl none ↦ inl (none, no_rows rows (subst (λ l. IsPermutation (map shows l) rows) none moved))
          | inr one ↦ inr (
            one.0,
            one.1,
            one_permutation (shows one.0) rows (subst (λ l. IsPermutation (map shows l) rows) one.1 moved),
            (subst (AllByRecursion t.IsRow) one.1 (all-filter t.IsRow _ all typed.read)).0,
          )
        ]

    -- UPDATE by key
    pub updates : (f : T → T) (made : Row → Row)
        (is : command_of (understood t.schema text)
        ≡ Update t.place (record { lets = []; body = plain_query t.base.tree terms project [] }))
        (stays : (a b : T) → t.cmp (cond (p a) (f a) a) (cond (p b) (f b) b) ≡ t.cmp a b)
        (shows : (found : Row) → t.IsRow found
        → id_in (rowid (eval_all project (params ∷ found ∷ []))) ≡ id_in (rowid found))
        (news : (rows : List Row) (found : Row) → t.IsRow found
        → numbered Given rows
        (map (λ s. cast_row (plain_table t.base) s) (drop 1 (eval_all project (params ∷ found ∷ [])) ∷ []))
        ≡ made found ∷ [])
        (reads_back : (found : Row) → t.IsRow found
        → (rowid (made found) ≡ rowid found) × (t.of (made found) ≡ f (t.of found)) × t.IsRow (made found))
        (count : ℕ)
        → IsTypedIn t old.now.trees → ExecutesInside 0 text params old new (Ok count)
        → ChangesTable t (update_where p f) old new
    updates f made is stays shows news reads_back count typed ran =
        let keys = (mode_of old).keys in
        let command = Update t.place (record { lets = []; body = plain_query t.base.tree terms project [] }) in
        let w = runs_as text params old new t.schema has command is plain count ran.0 in
        let changed =
        does_update old.step_limit (mode_of old) params was statement t.place t.base law.there (law.unworked keys)
        w.tally new.now (record { lets = []; body = plain_query t.base.tree terms project [] })
        (does command count w) in
        elim (by_key changed.0 typed changed.1.answer) [
          | inl none ↦
              let applied =
              subst
              (λ rows. Applies t.schema keys old.now.trees
              (edit_of old.now.trees (plain_table t.base) (ids_of rows) Given 1 rows) new.now.trees) none.1
              changed.2.1 in
              record {
                schema_is = changed.2.0;
                typed = subst (IsTyped t.cmp t.of t.IsRow) (sym applied.rows) typed;
                rows_are =
                    ap (content t.cmp t.of) applied.rows
                    ∙ sym (none_updated t.cmp law.total t.of t.IsRow p f all none.0);
                others = applied.tables;
                sound = w.sound;
                shown = ran.1;
              }
          | inr one ↦
              let found = one.0 in
              let is_row = one.3 in
              let id = id_in (rowid found) in
              let back = reads_back found is_row in
              let at =
              subst
              (λ rows. Applies t.schema keys old.now.trees
              (edit_of old.now.trees (plain_table t.base) (ids_of rows) Given 1 rows) new.now.trees) one.2
              changed.2.1 in
              let edit : List ℤ → List Row → Edit =
              λ gone news. record { table = plain_table t.base; gone = gone; news = news } in
              let moved =
              subst
              (λ i. Applies t.schema keys old.now.trees
              (edit (i ∷ [])
              (numbered Given (without_all all (i ∷ []))
              (map (λ s. cast_row (plain_table t.base) s) (drop 1 (eval_all project (params ∷ found ∷ [])) ∷ []))))
              new.now.trees) (shows found is_row) at in
              let applied =
              subst (λ news. Applies t.schema keys old.now.trees (edit (id ∷ []) news) new.now.trees)
              (news (without_all all (id ∷ [])) found is_row) moved in
              let row_id : rowid found ≡ Int id = law.numbered found is_row in
              let put =
              update_typed t.cmp law.total t.of t.IsRow p f stays all found (made found) id one.1 row_id
              (back.0 ∙ row_id) back.2 back.1 typed (not_true _ applied.fresh) in
              record {
                schema_is = changed.2.0;
                typed = subst (IsTyped t.cmp t.of t.IsRow) (sym applied.rows) put.0;
                rows_are = ap (content t.cmp t.of) applied.rows ∙ put.1;
                others = applied.tables;
                sound = w.sound;
                shown = ran.1;
              }
        ]

    -- DELETE by key
    pub deletes : (is : command_of (understood t.schema text)
        ≡ Delete t.place (record { lets = []; body = plain_query t.base.tree terms project [] }))
        (shows : (found : Row) → t.IsRow found
        → id_in (rowid (eval_all project (params ∷ found ∷ []))) ≡ id_in (rowid found)) (count : ℕ)
        → IsTypedIn t old.now.trees → ExecutesInside 0 text params old new (Ok count)
        → ChangesTable t (delete_where p) old new
    deletes is shows count typed ran =
        let keys = (mode_of old).keys in
        let command = Delete t.place (record { lets = []; body = plain_query t.base.tree terms project [] }) in
        let w = runs_as text params old new t.schema has command is plain count ran.0 in
        let changed =
        does_delete old.step_limit (mode_of old) params was statement t.place t.base law.there (law.unworked keys)
        w.tally new.now (record { lets = []; body = plain_query t.base.tree terms project [] })
        (does command count w) in
        let gone = delete_typed t.cmp law.total t.of t.IsRow p all typed in
        let left : new.now.trees t.base.tree ≡ filter (λ r. not (p (t.of r))) all =
        elim (by_key changed.0 typed changed.1.answer) [
          | inl none ↦
              (subst
              (λ rows. Applies t.schema keys old.now.trees
              (edit_of old.now.trees (plain_table t.base) (ids_of rows) Given 0 []) new.now.trees) none.1
              changed.2.1).rows
              ∙ sym (filter_all _ all (all_weaker _ _ (λ r h. ap not h) all (none_passes _ all none.0)))
          | inr one ↦
              let at =
              subst
              (λ rows. Applies t.schema keys old.now.trees
              (edit_of old.now.trees (plain_table t.base) (ids_of rows) Given 0 []) new.now.trees) one.2 changed.2.1
              in
              let applied =
              subst
              (λ i. Applies t.schema keys old.now.trees
              (edit_of old.now.trees (plain_table t.base) (i ∷ []) Given 0 []) new.now.trees) (shows one.0 one.3)
              at in
              applied.rows
              ∙ left_rows t.cmp law.total t.of t.IsRow (λ r. p (t.of r)) all one.0 (id_in (rowid one.0))
              typed.rowids one.1 (law.numbered one.0 one.3)
        ] in
        record {
          schema_is = changed.2.0;
          typed = subst (IsTyped t.cmp t.of t.IsRow) (sym left) gone.0;
          rows_are = ap (content t.cmp t.of) left ∙ gone.1;
          others = changed.2.1.tables;
          sound = w.sound;
          shown = ran.1;
        }

-- INSERT of one row that is the parameters, with a key of its own and a rowid that is chosen
pub inserts_row : {T : Type 0} (t : TypedTable T) (law : IsTable t) (old new : State) (has : old.now.schema ≡ t.schema)
    {text : List ℕ} (params : Row) {terms : List Term} {width : ℕ}
    (means : Means t.schema text (Insert t.place (Values terms width))) (row : T)
    (cast : map (λ s. cast_row (plain_table t.base) s) (value_rows (params ++ []) width (length terms / width) terms)
    ≡ (Null ∷ params) ∷ [])
    (again : (id : ℤ) → t.of (Int id ∷ params) ≡ row) (is_row : (id : ℤ) → t.IsRow (Int id ∷ params)) (count : ℕ)
    → IsTypedIn t old.now.trees → LacksKeyOf t row (rows_in t old.now.trees)
    → ExecutesInside 0 text params old new (Ok count) → ChangesTable t (insert_sorted t.cmp row) old new
inserts_row t law old new has {text} params {terms} {width} means row cast again is_row count =
    let rows = old.now.trees t.base.tree in
    let id = next_rowid rows in
    inserts t law old new has text params means.plain terms width means.is (Int id ∷ params) row
    (ap (numbered Chosen rows) cast) (again id, is_row id) count

-- ---- CREATE TABLE

module _ (old new : State) {schema next : Schema} {table : Table} {text : List ℕ} (t : Creates schema next table text)
  where
    -- the table is there, without a row, and the tables before it are as they were
    pub creates : (count : ℕ) → IsBare schema old.now → ExecutesInside 0 text [] old new (Ok count)
        → MakesBare next old new
    creates count bare ran =
        let has = bare.schema_is in
        let w =
        subst (λ s. Writes old new None CreateTable s [] count) t.kept
        (runs_as text [] old new schema has CreateTable t.is t.plain count ran.0) in
        let made =
        subst
        (λ s. (new.now.schema ≡ created s table) × (new.now.trees (next_tree s) ≡ [])
        × KeepsRows s.tables old.now.trees new.now.trees) has
        (does_create old.step_limit (mode_of old) [] old.now text table w.tally new.now t.defines
        (ap (λ s. lacks_sequence (created s table)) has ∙ t.uncounted) w.changed) in
        let empty : AllByRecursion (λ t. new.now.trees t.tree ≡ []) (created schema table).tables =
        still_empty (record table { tree = next_tree schema }) made.1 schema.tables made.2 bare.empty in
        record {
          bare =
              record {
                schema_is = made.0 ∙ t.makes;
                empty =
                    subst (λ (s : Schema). AllByRecursion (λ t. new.now.trees t.tree ≡ []) s.tables) t.makes empty;
              };
          sound =
              w.sound;
          shown = ran.1;
        }
      where
        still_empty : (last : Table) → new.now.trees last.tree ≡ [] → (tables : List Table)
            → KeepsRows tables old.now.trees new.now.trees → AllByRecursion (λ t. old.now.trees t.tree ≡ []) tables
            → AllByRecursion (λ t. new.now.trees t.tree ≡ []) (tables ++ last ∷ [])
        still_empty last none [] kept empty = (none, tt)
        still_empty last none (t ∷ tables) kept empty = (kept.0 ∙ empty.0, still_empty last none tables kept.1 empty.1)
