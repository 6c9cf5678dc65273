-- A SELECT of one table: what its text computes to, and what it shows.
use Rattle.std.proofs.Common.{◌≡◌, ℕ, ◌+◌, ℤ, Bool, true, false, List, [], ◌∷◌, map, filter, Option, None, Ok, Err}
use Rattle.std.proofs.Common.{refl, sym, ap, ap₂, ◌∙◌, subst, is_eq, IsPermutation}
use Rattle.std.specs.Prelude.{◌↔◌, if◌then◌else◌}
use Rattle.std.specs.List.{AllByRecursion}
use Rattle.std.specs.Cmp.{IsTotalOrder}
use Rattle.std.proofs.lemmas.List.Sorted.{IsPermutation-sym}
use Rattle.sqlite_value.specs.declared.keys.Key.{Key}
use Rattle.sqlite_value.specs.Order.{Row, value_cmp}
use Rattle.sqlite_trees.specs.Tree.{rowid}
use Rattle.sqlite_sql.specs.Term.{Term, eval_all}
use Rattle.sqlite_sql.specs.Query.{output, output_cmp}
use Rattle.sqlite_schema.specs.declared.schema.Schema.{Schema}
use Rattle.sqlite_schema.specs.declared.command.Command.{Command}
use Rattle.sqlite_schema.specs.declared.command.Returning.{Returning}
use Rattle.sqlite_rules.specs.Edit.{id_in}
use Rattle.sqlite_resolve.specs.Lowering.{Checked, and_then}
use Rattle.sqlite_resolve.specs.declared.compiled.Compiled.{Compiled}
use Rattle.sqlite_resolve.specs.declared.error.CompileError.TheVariants.{NoSuchTable}
use Rattle.sqlite_resolve.specs.Compile.{first, returning, command, timed, small, meaning, planned, compiled}
use Rattle.sqlite_resolve.specs.Compile.{with_command}
use Rattle.sqlite_keyed.specs.Lists.{sort_by}
use Rattle.sqlite_keyed.proofs.ListLemmas.{map-map, filter-map, ascending-map, ascending_weaker, ascending_from_map}
use Rattle.sqlite_keyed.proofs.ListLemmas.{all_of, all_map, all_weaker, all-filter}
use Rattle.sqlite_keyed.proofs.SortLemmas.{IsPermutation-sort_by, sort_by-map}
use Rattle.sqlite.specs.Listing.{listing_schema, is_select, if_select, understood, reads_listing}
use Rattle.sqlite.specs.State.{State, Shown, ShowsRows, IsUnchanged}
use Rattle.sqlite.proofs.Callers.{reads_as}
use Rattle.station_tables_records.specs.Plain.{plain_query, keeps}
use Rattle.station_tables_records.specs.Asking.{IsReading}
use Rattle.station_tables_records.proofs.Selects.{Selects}
use Rattle.station_tables_records.specs.Content.{IsTyped, HaveKeys}
use Rattle.station_tables_records.specs.Table.{TypedTable, IsTable, IsTypedIn, ShowsTable, ShowsPart}
use Rattle.station_tables_records.proofs.SortLemmas.{is_sorted-sort_by}
use Rattle.station_tables_records.proofs.WriteLemmas.{ascending_permutes, apart_back, typed_permutes, all_permutes}
use Rattle.station_tables_records.proofs.ReadLemmas.{read_typed, answer_permutes, map_on}
use Rattle.station_tables_records.proofs.TableLemmas.{shows_all, finds, no_rows, every_row}
use Rattle.station_tables_records.proofs.KeyLemmas.{Rise, rise_from_sorted, rising_sorted}

-- The columns that it shows are those of a row, the rowid first, and its order is that of the keys.
pub record ShowsColumns {T : Type 0} (t : TypedTable T) (project : List Term) (order : List (Term × Key)) : Type 0 where
  pub still : (params r : Row) → t.IsRow r → t.IsRow (eval_all project (params ∷ r ∷ []))
  pub back : (params r : Row) → t.IsRow (eval_all project (params ∷ r ∷ [])) → t.IsRow r
  pub same : (params r : Row) → t.of (eval_all project (params ∷ r ∷ [])) ≡ t.of r
  pub ids : (params r : Row) → rowid (eval_all project (params ∷ r ∷ [])) ≡ rowid r
  -- by what it sorts a value, and what it shows of it behind a rowid
  pub key : T → Row
  pub shown : ℤ → T → Row
  pub again : (id : ℤ) (r : Row) → t.IsRow r → t.of (shown id (t.of r)) ≡ t.of r
  pub shows : (terms : List Term) (params r : Row) → t.IsRow r
      → output (plain_query t.base.tree terms project order) (params ∷ r ∷ [])
      ≡ (key (t.of r), shown (id_in (rowid r)) (t.of r))
  pub orders : (terms : List Term) (i j : ℤ) (a b : T)
      → output_cmp (plain_query t.base.tree terms project order) (key a, shown i a) (key b, shown j b) ≡ t.cmp a b

every : {X : Type 0} (xs : List X) → filter (λ _. true) xs ≡ xs
every [] = refl
every (x ∷ xs) = ap (λ l. x ∷ l) (every xs)

module _ {T : Type 0} (t : TypedTable T) (law : IsTable t) {project : List Term} {order : List (Term × Key)}
    (columns : ShowsColumns t project order) (old new : State) (has : old.now.schema ≡ t.schema) where
  abbrev cells : Row → Row → Row
  cells params r = eval_all project (params ∷ r ∷ [])

  -- what is shown of typed rows is typed
  cells_typed : (params : Row) (all : List Row) → IsTyped t.cmp t.of t.IsRow all
      → IsTyped t.cmp t.of t.IsRow (map (cells params) all)
  cells_typed params all typed = record {
    read = all_read all typed.read;
    rowids =
        ascending-map _ (cells params) all
        (ascending_weaker _ _
        (λ a b h. ap₂ (λ v w. is_eq (value_cmp v w)) (columns.ids params a) (columns.ids params b) ∙ h) all
        typed.rowids);
    keys =
        subst (HaveKeys t.cmp)
        (sym
        (map-map t.of (cells params) all
        ∙ map_on (λ _. Unit {0}) _ t.of all (λ r _. columns.same params r) (all_of _ (λ _. tt) all))) typed.keys;
  }
    where
      all_read : (rs : List Row) → AllByRecursion t.IsRow rs → AllByRecursion t.IsRow (map (cells params) rs)
      all_read [] h = tt
      all_read (r ∷ rs) h = (columns.still params r h.0, all_read rs h.1)

  -- the rows that pass, in the order of their keys
  pub shows_part : {terms : List Term} {text : List ℕ} (params : Row)
      (selects : Selects t.schema text (plain_query t.base.tree terms project order)) (keep : T → Bool)
      (tests : (r : Row) → t.IsRow r → keeps params terms r ≡ keep (t.of r)) (rows : List Row)
      → IsTypedIn t old.now.trees → Shown text params old new rows → ShowsPart t keep rows old.now.trees
  shows_part {terms} {text} params selects keep tests rows typed showed =
      let all = old.now.trees t.base.tree in
      let pair : Row → ℤ × T = λ r. (id_in (rowid r), t.of r) in
      let second : ℤ × T → T = λ p. p.1 in
      let pairs = map pair all in
      let seconds : map second pairs ≡ map t.of all = map-map second pair all in
      let apart : HaveKeys (λ (a b : ℤ × T). t.cmp a.1 b.1) pairs =
      ascending_from_map _ second pairs (subst (HaveKeys t.cmp) (sym seconds) typed.keys) in
      let sorted = sort_by (λ (a b : ℤ × T). t.cmp a.1 b.1) pairs in
      let passed = filter (λ (p : ℤ × T). keep p.1) sorted in
      let pairs_total : IsTotalOrder (λ (a b : ℤ × T). t.cmp a.1 b.1) =
      record {
        antisymm = λ a b. law.total.antisymm a.1 b.1;
        trans = λ a b c. law.total.trans a.1 b.1 c.1;
        congr =
            λ a b c. law.total.congr a.1 b.1 c.1;
      } in
      let read_back : ℤ × T → Type 0 = λ p. t.of (columns.shown p.0 p.1) ≡ p.1 in
      let all_back : AllByRecursion read_back pairs =
      all_map read_back pair all
      (all_weaker t.IsRow (λ r. read_back (pair r)) (λ r is. columns.again (id_in (rowid r)) r is) all typed.read)
      in
      let back : AllByRecursion read_back passed =
      all-filter read_back (λ (p : ℤ × T). keep p.1) sorted
      (all_permutes read_back pairs sorted
      (IsPermutation-sym _ _ (IsPermutation-sort_by (λ (a b : ℤ × T). t.cmp a.1 b.1) pairs_total pairs)) all_back)
      in
      let read = reads_as text params old new t.schema has _ selects.is selects.plain selects.unlisted rows showed in
      let rows_are : rows ≡ map (λ (p : ℤ × T). columns.shown p.0 p.1) passed =
      read_typed t.base.tree terms project order (λ (a b : ℤ × T). t.cmp a.1 b.1) pairs_total
      pair t.IsRow (λ p. columns.shown p.0 p.1) (λ p. columns.key p.1) (λ p. keep p.1) params
      (columns.shows terms params) tests (λ a b. columns.orders terms a.0 b.0 a.1 b.1)
      old.now.trees rows (record { read = typed.read; rowids = typed.rowids; keys = apart }) read.answer in
      ap (map t.of) rows_are ∙ map-map t.of (λ (p : ℤ × T). columns.shown p.0 p.1) passed
      ∙ map_on read_back _ second passed (λ p h. h) back
      ∙ sym (filter-map keep second sorted)
      ∙ ap (filter keep) (sym (sort_by-map t.cmp second pairs) ∙ ap (sort_by t.cmp) seconds)

  -- a text without a filter shows rows that read as what the table holds
  pub shows_table : {text : List ℕ} (params : Row)
      (selects : Selects t.schema text (plain_query t.base.tree [] project order)) (rows : List Row)
      → Shown text params old new rows → ShowsTable t rows old.now.trees
  shows_table {text} params selects rows showed list = (
    (λ read. let found =
        finds t law old new has text params selects.plain project order _ selects.is selects.unlisted
        (columns.back params) (columns.same params) (columns.ids params) rows showed read.typed in
        record {
          typed = found.0;
          are =
              found.1 ∙ ap (sort_by t.cmp) read.are ∙ rising_sorted t.cmp law.total list read.rise;
        }),
    (λ holds. record {
      typed =
          typed_permutes t.cmp law.total t.of t.IsRow _ rows
          (shows_all t law old new has text params selects.plain project order _ selects.is selects.unlisted rows
          showed)
          (cells_typed params (old.now.trees t.base.tree) holds.typed);
      are = shows_part params selects (λ _. true) (λ r _. refl) rows holds.typed showed ∙ every _ ∙ holds.are;
      rise = subst (Rise t.cmp) holds.are (content_rises _ holds.typed.keys);
    }),
  )
    where
      content_rises : (xs : List T) → HaveKeys t.cmp xs → Rise t.cmp (sort_by t.cmp xs)
      content_rises xs apart =
          rise_from_sorted t.cmp law.total (sort_by t.cmp xs)
          (ascending_permutes _ (apart_back t.cmp law.total) xs _
          (IsPermutation-sym _ _ (IsPermutation-sort_by t.cmp law.total xs)) apart)
          (is_sorted-sort_by t.cmp law.total xs)

-- a text that shows something of each row of a tree shows nothing where there is none, and only there
pub shows_none : (old new : State) (schema : Schema) → old.now.schema ≡ schema
    → {text : List ℕ} (params : Row) (tree : ℕ) (project : List Term) (order : List (Term × Key))
    → Selects schema text (plain_query tree [] project order)
    → (rows : List Row) → Shown text params old new rows → (rows ≡ []) ↔ (old.now.trees tree ≡ [])
shows_none old new schema has {text} params tree project order selects rows showed =
    let cells = λ (r : Row). eval_all project (params ∷ r ∷ []) in
    let read = reads_as text params old new schema has _ selects.is selects.plain selects.unlisted rows showed in
    let same : IsPermutation (map cells (old.now.trees tree)) rows =
    subst (λ l. IsPermutation (map cells l) rows) (every_row params (old.now.trees tree))
    (answer_permutes tree [] project order old.now.trees params rows read.answer) in (
      (λ none. unmapped cells (old.now.trees tree)
          (no_rows _
          (subst (λ l. IsPermutation l (map cells (old.now.trees tree))) none (IsPermutation-sym _ _ same)))),
      (λ none. no_rows rows (subst (λ l. IsPermutation (map cells l) rows) none same)),
    )
  where
    unmapped : (cells : Row → Row) (all : List Row) → map cells all ≡ [] → all ≡ []
    unmapped cells [] e = refl
    unmapped cells (r ∷ all) e = absurd cc

-- ---- a text that says no RETURNING changes nothing, whatever the schema is

abbrev ReturnsNone : Checked Compiled → Type 0
ReturnsNone (Ok c) = c.returning ≡ None
ReturnsNone (Err e) = Unit {0}

abbrev Plan : Type 0
Plan = List (List ℕ) × (Command × Option Returning)

abbrev joined : (Plan → Compiled) → List (List ℕ) → Checked (Option Returning) → Checked Command → Checked Compiled
joined finish formats shown command =
    and_then (and_then (and_then shown (λ s. and_then command (λ c. Ok (c, s)))) (λ found. Ok (formats, found)))
    (λ plan. Ok (finish plan))

joined_reads : (finish : Plan → Compiled) → ((plan : Plan) → (finish plan).returning ≡ plan.1.1)
    → (formats : List (List ℕ)) (command : Checked Command) → ReturnsNone (joined finish formats (Ok None) command)
joined_reads finish keeps formats (Ok c) = keeps (formats, (c, None))
joined_reads finish keeps formats (Err e) = tt

compiled_reads : (schema : Schema) (text : List ℕ) → IsReading text → ReturnsNone (compiled schema text)
unfolding compiled planned meaning
compiled_reads schema text reads =
    (elim (first text)
    as (λ r. ((base : ℕ) → and_then r (λ p. returning schema base p.statement) ≡ Ok None)
    → ReturnsNone (and_then r (λ p. and_then (planned schema p) (λ plan. Ok (with_command p plan))))) [
      | Ok p ↦ λ reads.
          let formats = timed schema p.formats p.statement in
          let base = small p.names + small formats in
          let put = command schema p.formats base p.statement in
          subst (λ shown. ReturnsNone (joined (λ plan. with_command p plan) formats shown put)) (sym (reads base))
          (joined_reads (λ plan. with_command p plan) (λ plan. refl) formats put)
      | Err e ↦ λ _. tt
    ]) (reads schema)

listing_reads : (r : Checked Compiled) → ReturnsNone r → ReturnsNone (if_select r)
listing_reads (Ok c) none =
    elim (is_select c.command) as (λ b. ReturnsNone (if b then Ok c else Err NoSuchTable)) [ true ↦ none | false ↦ tt ]
listing_reads (Err e) none = tt

understood_reads : (schema : Schema) (text : List ℕ) → IsReading text → ReturnsNone (understood schema text)
unfolding understood
understood_reads schema text reads =
    elim (reads_listing schema text)
    as (λ b. ReturnsNone (if b then if_select (compiled listing_schema text) else compiled schema text)) [
      | true ↦ listing_reads (compiled listing_schema text) (compiled_reads listing_schema text reads)
      | false ↦ compiled_reads schema text reads
    ]

pub reads_only : (old new : State) (text : List ℕ) (params : Row) → IsReading text → (rows : List Row)
    → Shown text params old new rows → IsUnchanged old new
unfolding Shown
reads_only old new text params reads rows shown =
    let none = subst ReturnsNone shown.1.is (understood_reads old.now.schema text reads) in
    (subst (ShowsRows old new text shown.0 _ rows) none shown.2).3
