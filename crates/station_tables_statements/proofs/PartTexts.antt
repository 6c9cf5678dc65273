-- The texts that read a table channel by channel, and what they show.
use Rattle.std.proofs.Common.{◌≡◌, ℕ, ℤ, pos, negsuc, Bool, true, false, cond, List, [], ◌∷◌, map, filter, flat_map}
use Rattle.std.proofs.Common.{length, Some, None, refl, sym, ap, ap₂, ◌∙◌, subst, arith, IsPermutation}
use Rattle.std.specs.Prelude.{◌==◌, ◌^◌, ◌-◌, min, nat_le, slice_get, unwrap_or, codes, if◌then◌else◌}
use Rattle.std.specs.List.{AllByRecursion, AllZip, list_all}
use Rattle.std.specs.Cmp.{IsTotalOrder}
use Rattle.std.proofs.lemmas.List.Sorted.{IsPermutation-sym, IsPermutation-map, length_permutation}
use lib.ListN.{length-map}
use Rattle.sqlite_value.specs.declared.keys.Collation.TheVariants.{Binary}
use Rattle.sqlite_value.specs.declared.keys.Key.{Key}
use Rattle.sqlite_value.specs.declared.value.Value.TheVariants.{Null, Int}
use Rattle.sqlite_value.specs.Order.{Row}
use Rattle.sqlite_trees.specs.Tree.{Trees, rowid}
use Rattle.sqlite_sql.specs.declared.aggregate.AggregateOp.TheVariants.{CountRows}
use Rattle.sqlite_sql.specs.Term.{Term, Env, lit, col, eval, eval_all, holds}
use Rattle.sqlite_sql.specs.Group.{Grouping, IsSummary, value_over}
use Rattle.sqlite_sql.specs.Query.{Query, Output, inner, end, output, IsAnswerAs}
use Rattle.sqlite_sql.specs.Program.{overlay, IsProgramAnswer}
use Rattle.sqlite_schema.specs.declared.schema.Schema.{Schema}
use Rattle.sqlite_schema.specs.declared.schema.Table.{Table}
use Rattle.sqlite_rules.specs.Edit.{id_in}
use Rattle.sqlite_tied.specs.Compute.{everything}
use Rattle.sqlite_keyed.specs.Lists.{sort_by}
use Rattle.sqlite_keyed.proofs.ListLemmas.{map-map, map_same, filter-map, flat_map-filter, all_weaker, all_map}
use Rattle.sqlite_keyed.proofs.ListLemmas.{all-filter, ascending_from_map, filter_all}
use Rattle.sqlite_keyed.proofs.SortLemmas.{IsPermutation-sort_by, sort_by-map}
use Rattle.sqlite.specs.State.{State, Shown}
use Rattle.sqlite.specs.Listing.{understood}
use Rattle.sqlite.proofs.Callers.{reads_as, one_permutation}
use Rattle.station_tables_records.specs.Plain.{plain_query}
use Rattle.station_tables_records.specs.Content.{IsTyped, HaveKeys}
use Rattle.station_tables_records.specs.Schema.{first_and}
use Rattle.station_tables_records.specs.Table.{TypedTable, IsTable, IsTypedIn, HoldsRows, ReadAs, rows_in}
use Rattle.station_tables_records.specs.Values.{of_nat}
use Rattle.station_tables_records.proofs.AiredTexts.{channel_lines_text, lines_query}
use Rattle.station_tables_records.proofs.DayTexts.{items_query}
use Rattle.station_tables_records.proofs.KeyLemmas.{Rise, rise_from_sorted, rising_sorted}
use Rattle.station_tables_records.proofs.Opens.{Opens}
use Rattle.station_tables_records.proofs.ReadLemmas.{answer_permutes, map_on, read_typed}
use Rattle.station_tables_records.proofs.SelectLemmas.{ShowsColumns}
use Rattle.station_tables_records.proofs.Selects.{Selects, Fits}
use Rattle.station_tables_records.proofs.SortLemmas.{is_sorted-sort_by}
use Rattle.station_tables_records.proofs.Texts.{is_first_at}
use Rattle.station_tables_records.proofs.WriteLemmas.{all_permutes, ascending_permutes, apart_back, typed_permutes}
use Rattle.station_tables_records.proofs.WriteLemmas.{typed_from_answer, content_permutes}
use Rattle.station_tables_statements.specs.ByChannel.{is_channel, of_channel, count_row, ShowsChannel}

-- ---- the texts

abbrev pub channel_items_text : List ℕ
channel_items_text =
    codes "SELECT rowid, ch, day, n, pos, frames, src, src_first, kind, mix FROM item WHERE ch = ?1 ORDER BY ch, day, n"

abbrev pub count_items_text : List ℕ
count_items_text = codes "SELECT count(*) FROM item"

abbrev pub count_lines_text : List ℕ
count_lines_text = codes "SELECT count(*) FROM aired"

abbrev pub rows_counted : Grouping
rows_counted =
    record {
      keys = [];
      collations = [];
      aggregates =
          record { op = CountRows; distinct = false; collation = Binary; argument = lit Null } ∷ [];
      having = [];
    }

-- how many rows a tree has
abbrev pub count_query : ℕ → Query
count_query tree = record {
  from = inner tree end;
  filter = [];
  group = Some rows_counted;
  project = col 1 0 ∷ [];
  distinct = false;
  collations = [];
  order = [];
  limit = lit (Int (negsuc 0));
  offset = lit (Int (pos 0));
}

-- What a text with a channel means: this query, whose terms fit the tables.
pub record OpensChannel (schema : Schema) (text : List ℕ) (query : Query) : Type 0 where
  pub selects : Selects schema text query
  pub fits : (c : ℕ) → Fits schema text (of_nat c ∷ []) query

pub record PartTexts : Type 0 where
  pub items : {more : List Table} → OpensChannel (first_and more) channel_items_text (items_query (is_first_at 1))
  pub lines : {more : List Table} → OpensChannel (first_and more) channel_lines_text (lines_query (is_first_at 1))
  pub count_items : {more : List Table} → Opens (first_and more) count_items_text (count_query 15)
  pub count_lines : {more : List Table} → Opens (first_and more) count_lines_text (count_query 20)

pub part_texts : PartTexts
unfolding understood everything
part_texts = record {
  items =
      record {
        selects =
            record { names = _; is = refl; plain = (refl, refl); unlisted = refl; reads = λ schema base. refl };
        fits =
            λ c. record { whole = (omega arith, refl); typed = refl };
      };
  lines =
      record {
        selects =
            record { names = _; is = refl; plain = (refl, refl); unlisted = refl; reads = λ schema base. refl };
        fits =
            λ c. record { whole = (omega arith, refl); typed = refl };
      };
  count_items =
      record {
        selects =
            record { names = _; is = refl; plain = (refl, refl); unlisted = refl; reads = λ schema base. refl };
        fits =
            record { whole = (omega arith, refl); typed = refl };
      };
  count_lines =
      record {
        selects =
            record { names = _; is = refl; plain = (refl, refl); unlisted = refl; reads = λ schema base. refl };
        fits =
            record { whole = (omega arith, refl); typed = refl };
      };
}

-- ---- what a text with a channel shows

module _ (old new : State) (schema : Schema) (has : old.now.schema ≡ schema) {T : Type 0} (t : TypedTable T)
    (law : IsTable t) (channel : T → ℕ)
    (by_channel : (c : ℕ) (r : Row) → t.IsRow r → is_channel c r ≡ (channel (t.of r) == c))
    {project : List Term} {order : List (Term × Key)} (columns : ShowsColumns t project order) (c : ℕ) {text : List ℕ}
    (selects : Selects schema text (plain_query t.base.tree (is_first_at 1) project order))
    (rows : List Row) (showed : Shown text (of_nat c ∷ []) old new rows) where
  abbrev params : Row
  params = of_nat c ∷ []

  abbrev query : Query
  query = plain_query t.base.tree (is_first_at 1) project order

  abbrev cells : Row → Row
  cells r = eval_all project (params ∷ r ∷ [])

  abbrev part : List Row
  part = filter (is_channel c) (old.now.trees t.base.tree)

  abbrev answered : IsProgramAnswer [] query old.now.trees params rows
  answered = (reads_as text params old new schema has _ selects.is selects.plain selects.unlisted rows showed).answer

  moved : IsPermutation (map cells part) rows
  moved = answer_permutes t.base.tree (is_first_at 1) project order old.now.trees params rows answered

  -- the same rows would be shown if the tree had no others
  alone : IsProgramAnswer [] query (of_channel c old.now.trees) params rows
  alone lost =
      let a : IsAnswerAs lost query (overlay old.now.trees []) params rows = answered lost in
      record {
        staged = a.staged;
        grouped =
            a.grouped ∙ ap (λ (rs : List Row). flat_map one rs) (bare old.now.trees t.base.tree)
            ∙ sym (flat_map-filter one (is_channel c) none (old.now.trees t.base.tree))
            ∙ sym (ap (λ (rs : List Row). flat_map one rs) (bare (of_channel c old.now.trees) t.base.tree));
        kept = a.kept;
        distinct = a.distinct;
        ordered = a.ordered;
        same = a.same;
        sorted = a.sorted;
        shown = a.shown;
      }
    where
      one : Row → List Env
      one r = if list_all (holds (params ∷ r ∷ [])) (is_first_at 1) then (params ∷ r ∷ []) ∷ [] else []

      none : (r : Row) → is_channel c r ≡ false → one r ≡ []
      none r is = ap (λ b. if b then (params ∷ r ∷ []) ∷ [] else []) is

      bare : (db : Trees) (tree : ℕ) → overlay db [] tree ≡ db tree
      bare db tree =
          elim (nat_le (2 ^ 31) tree)
          as (λ b. unwrap_or (cond b (slice_get [] (tree - 2 ^ 31)) None) (db tree) ≡ db tree)
          [ true ↦ refl | false ↦ refl ]

  part_reads : IsTypedIn t (of_channel c old.now.trees) → AllByRecursion (λ r. (channel (t.of r) == c) ≡ true) part
  part_reads typed = each (old.now.trees t.base.tree) typed.read
    where
      each : (rs : List Row) → AllByRecursion t.IsRow (filter (is_channel c) rs)
          → AllByRecursion (λ r. (channel (t.of r) == c) ≡ true) (filter (is_channel c) rs)
      each [] read = tt
      each (r ∷ rs) read = by (is_channel c r) refl read (each rs)
        where
          by : (b : Bool) → is_channel c r ≡ b
              → AllByRecursion t.IsRow (cond b (r ∷ filter (is_channel c) rs) (filter (is_channel c) rs))
              → (AllByRecursion t.IsRow (filter (is_channel c) rs)
              → AllByRecursion (λ r. (channel (t.of r) == c) ≡ true) (filter (is_channel c) rs))
              → AllByRecursion (λ r. (channel (t.of r) == c) ≡ true)
              (cond b (r ∷ filter (is_channel c) rs) (filter (is_channel c) rs))
          by true is read more = (sym (by_channel c r read.0) ∙ is, more read.1)
          by false is read more = more read

  abbrev keep : T → Bool
  keep v = channel v == c

  -- where the channel's rows read, what is shown reads as they do, in the order of their keys
  shown_in_order : IsTypedIn t (of_channel c old.now.trees) → map t.of rows ≡ rows_in t (of_channel c old.now.trees)
  shown_in_order typed =
      let pair : Row → ℤ × T = λ r. (id_in (rowid r), t.of r) in
      let second : ℤ × T → T = λ p. p.1 in
      let pairs = map pair part in
      let seconds : map second pairs ≡ map t.of part = map-map second pair part in
      let pair_cmp = λ (a b : ℤ × T). t.cmp a.1 b.1 in
      let apart : HaveKeys pair_cmp pairs =
      ascending_from_map _ second pairs (subst (HaveKeys t.cmp) (sym seconds) typed.keys) in
      let sorted = sort_by pair_cmp pairs in
      let passed = filter (λ (p : ℤ × T). keep p.1) sorted in
      let pairs_total : IsTotalOrder pair_cmp =
      record {
        antisymm = λ a b. law.total.antisymm a.1 b.1;
        trans = λ a b d. law.total.trans a.1 b.1 d.1;
        congr =
            λ a b d. law.total.congr a.1 b.1 d.1;
      } in
      let read_back : ℤ × T → Type 0 = λ p. t.of (columns.shown p.0 p.1) ≡ p.1 in
      let all_back : AllByRecursion read_back pairs =
      all_map read_back pair part
      (all_weaker t.IsRow (λ r. read_back (pair r)) (λ r is. columns.again (id_in (rowid r)) r is) part typed.read)
      in
      let back : AllByRecursion read_back passed =
      all-filter read_back (λ (p : ℤ × T). keep p.1) sorted
      (all_permutes read_back pairs sorted
      (IsPermutation-sym _ _ (IsPermutation-sort_by pair_cmp pairs_total pairs)) all_back) in
      let rows_are : rows ≡ map (λ (p : ℤ × T). columns.shown p.0 p.1) passed =
      read_typed t.base.tree (is_first_at 1) project order pair_cmp pairs_total
      pair t.IsRow (λ p. columns.shown p.0 p.1) (λ p. columns.key p.1) (λ p. keep p.1) params
      (columns.shows (is_first_at 1) params) (λ r is. by_channel c r is)
      (λ a b. columns.orders (is_first_at 1) a.0 b.0 a.1 b.1)
      (of_channel c old.now.trees) rows (record { read = typed.read; rowids = typed.rowids; keys = apart }) alone in
      let mine : AllByRecursion (λ v. keep v ≡ true) (rows_in t (of_channel c old.now.trees)) =
      all_permutes _ _ _ (IsPermutation-sym _ _ (IsPermutation-sort_by t.cmp law.total (map t.of part)))
      (all_map _ t.of part (part_reads typed)) in
      ap (map t.of) rows_are ∙ map-map t.of (λ (p : ℤ × T). columns.shown p.0 p.1) passed
      ∙ map_on read_back _ second passed (λ p h. h) back
      ∙ sym (filter-map keep second sorted)
      ∙ ap (filter keep) (sym (sort_by-map t.cmp second pairs) ∙ ap (sort_by t.cmp) seconds)
      ∙ filter_all keep _ mine

  content_rises : (xs : List T) → HaveKeys t.cmp xs → Rise t.cmp (sort_by t.cmp xs)
  content_rises xs apart =
      rise_from_sorted t.cmp law.total (sort_by t.cmp xs)
      (ascending_permutes _ (apart_back t.cmp law.total) xs _
      (IsPermutation-sym _ _ (IsPermutation-sort_by t.cmp law.total xs)) apart)
      (is_sorted-sort_by t.cmp law.total xs)

  of_cells : map t.of (map cells part) ≡ map t.of part
  of_cells = map-map t.of cells part ∙ map_same _ t.of (λ r. columns.same params r) part

  part_from : (list : List T) → ReadAs t rows list → HoldsRows t list (of_channel c old.now.trees)
  part_from list read = record {
    typed =
        typed_from_answer t.cmp law.total t.of t.IsRow cells (columns.back params) (columns.same params)
        (columns.ids params) part rows moved read.typed;
    are =
        ap (sort_by t.cmp) (sym of_cells)
        ∙ content_permutes t.cmp law.total t.of t.IsRow rows (map cells part) (IsPermutation-sym _ _ moved) read.typed
        ∙ ap (sort_by t.cmp) read.are ∙ rising_sorted t.cmp law.total list read.rise;
  }

  cells_typed : IsTypedIn t (of_channel c old.now.trees) → IsTyped t.cmp t.of t.IsRow (map cells part)
  cells_typed typed = record {
    read = all_map t.IsRow cells part (all_weaker t.IsRow _ (λ r is. columns.still params r is) part typed.read);
    rowids =
        Rattle.sqlite_keyed.proofs.ListLemmas.ascending-map _ cells part
        (Rattle.sqlite_keyed.proofs.ListLemmas.ascending_weaker _ _
        (λ a b h. ap₂ (λ v w. Rattle.std.specs.Ordering.is_eq (Rattle.sqlite_value.specs.Order.value_cmp v w))
        (columns.ids params a) (columns.ids params b) ∙ h) part typed.rowids);
    keys = subst (HaveKeys t.cmp) (sym of_cells) typed.keys;
  }

  part_shown : (list : List T) → HoldsRows t list (of_channel c old.now.trees) → ReadAs t rows list
  part_shown list held = record {
    typed = typed_permutes t.cmp law.total t.of t.IsRow (map cells part) rows moved (cells_typed held.typed);
    are = shown_in_order held.typed ∙ held.are;
    rise = subst (Rise t.cmp) held.are (content_rises _ held.typed.keys);
  }

  pub shows_channel : ShowsChannel t c rows old.now.trees
  shows_channel = record {
    table = λ list. (part_from list, part_shown list);
    ids =
        subst (λ l. IsPermutation l (map rowid rows))
        (map-map rowid cells part ∙ map_same _ rowid (λ r. columns.ids params r) part)
        (IsPermutation-map rowid _ _ moved);
  }

-- ---- what a count shows

module _ (old new : State) (schema : Schema) (has : old.now.schema ≡ schema) (tree : ℕ) {text : List ℕ}
    (selects : Selects schema text (count_query tree)) (rows : List Row) (showed : Shown text [] old new rows) where
  abbrev every : List Row
  every = old.now.trees tree

  told_row : (found order : List Env) → length order ≡ length every → (made : List Row)
      → AllZip (IsSummary rows_counted) (order ∷ []) made → made ≡ count_row every
  told_row found order count [] h = absurd h
  told_row found order count (r ∷ s ∷ made) h = absurd h.1
  told_row found order count (r ∷ []) h = ap (λ v. v ∷ []) (h.0.2 ∙ value h.0.0 h.0.1)
    where
      value : (vs : Row) → AllZip (λ a v. value_over order a ≡ Some v) rows_counted.aggregates vs
          → vs ≡ Int (pos (min (length every) 9223372036854775807)) ∷ []
      value [] k = absurd k
      value (v ∷ u ∷ vs) k = absurd k.1
      value (v ∷ []) k =
          let many : length (map (eval (lit Null)) order) ≡ length every = length-map order (eval (lit Null)) ∙ count in
          let is : Some (Int (pos (min (length (map (eval (lit Null)) order)) 9223372036854775807))) ≡ Some v = k.0 in
          ap (λ w. w ∷ [])
          (sym
          (let same : Int (pos (min (length (map (eval (lit Null)) order)) 9223372036854775807)) ≡ v = cc in same)
          ∙ ap (λ n. Int (pos (min n 9223372036854775807))) many)

  envs : (rs : List Row) → flat_map (λ (r : Row). ([] ∷ r ∷ []) ∷ []) rs ≡ map (λ (r : Row). [] ∷ r ∷ []) rs
  envs [] = refl
  envs (r ∷ rs) = ap (λ l. ([] ∷ r ∷ []) ∷ l) (envs rs)

  pub shows_count : rows ≡ count_row every
  shows_count =
      let read = reads_as text [] old new schema has _ selects.is selects.plain selects.unlisted rows showed in
      let a : IsAnswerAs Null (count_query tree) (overlay old.now.trees []) [] rows = read.answer Null in
      let made = a.grouped in
      let order = made.grouping.0 in
      let count : length order ≡ length every =
      length_permutation _ _ made.grouping.1 ∙ ap length (envs (overlay old.now.trees [] tree))
      ∙ length-map (overlay old.now.trees [] tree) (λ (r : Row). [] ∷ r ∷ [])
      ∙ ap length (bare_tree old.now.trees tree) in
      let row : made.rows ≡ count_row every =
      told_row order order count made.rows
      (subst (λ gs. AllZip (IsSummary rows_counted) gs made.rows) made.grouping.2 made.summaries) in
      let kept =
      a.distinct
      ∙ ap (map (output (count_query tree)))
      (made.having
      ∙ ap
      (λ l. Rattle.std.specs.Prelude.filter (λ env. list_all (holds env) []) (map (λ (r : Row). [] ∷ r ∷ []) l))
      row) in
      let ordered = one_permutation _ a.ordered (subst (λ k. IsPermutation k a.ordered) kept a.same) in
      a.shown ∙ ap (λ l. map (λ (o : Output). o.1) l) ordered
    where
      bare_tree : (db : Trees) (tree : ℕ) → overlay db [] tree ≡ db tree
      bare_tree db tree =
          elim (nat_le (2 ^ 31) tree)
          as (λ b. unwrap_or (cond b (slice_get [] (tree - 2 ^ 31)) None) (db tree) ≡ db tree)
          [ true ↦ refl | false ↦ refl ]
