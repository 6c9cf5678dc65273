-- A SELECT of the last row that passes, in the order of the keys.
use Rattle.std.proofs.Common.{◌≡◌, ℕ, ℤ, Bool, true, false, cond, List, [], ◌∷◌, ◌++◌, map, filter, take, reverse}
use Rattle.std.proofs.Common.{Ordering, refl, sym, ap, ◌∙◌, subst, IsPermutation}
use Rattle.std.specs.List.{AllByRecursion}
use Rattle.std.specs.Ordering.{ordering_reverse}
use Rattle.std.specs.Cmp.{IsTotalOrder}
use Rattle.std.proofs.lemmas.List.{reverse-append, append-nil}
use Rattle.std.proofs.lemmas.List.Elements.{filter-append}
use Rattle.std.proofs.lemmas.List.Sorted.{IsPermutation-sym, IsPermutation-trans, IsPermutation-reverse}
use Rattle.sqlite_value.specs.declared.keys.Key.{Key}
use Rattle.sqlite_value.specs.Order.{Row}
use Rattle.sqlite_trees.specs.Tree.{rowid, IsAscending}
use Rattle.sqlite_sql.specs.Term.{Term}
use Rattle.sqlite_sql.specs.Query.{output, output_cmp}
use Rattle.sqlite_rules.specs.Edit.{id_in}
use Rattle.sqlite_keyed.specs.Lists.{sort_by}
use Rattle.sqlite_keyed.proofs.ListLemmas.{map-map, filter-map, ascending_from_map, ascending_weaker, all-append}
use Rattle.sqlite_keyed.proofs.ListLemmas.{ascending-append, all_map, all_weaker, all-filter}
use Rattle.sqlite_keyed.proofs.SortLemmas.{IsPermutation-sort_by, sort_by-map}
use Rattle.sqlite.specs.State.{State, Shown}
use Rattle.sqlite.proofs.Callers.{reads_as}
use Rattle.station_tables_records.specs.Plain.{plain_query, first_query, keeps}
use Rattle.station_tables_records.specs.Content.{HaveKeys}
use Rattle.station_tables_records.specs.Table.{TypedTable, IsTable, IsTypedIn, ShowsLast, rows_in}
use Rattle.station_tables_records.proofs.Selects.{Selects}
use Rattle.station_tables_records.proofs.SelectLemmas.{ShowsColumns}
use Rattle.station_tables_records.proofs.SortLemmas.{sort_same, is_sorted-sort_by}
use Rattle.station_tables_records.proofs.ReadLemmas.{read_first, map_on}
use Rattle.station_tables_records.proofs.WriteLemmas.{ascending_permutes, apart_back, all_permutes}
use Rattle.station_tables_records.proofs.KeyLemmas.{Rise, rise_from_sorted, rising_sorted}

module _ {X : Type 0} where
  reverse-cons : (x : X) (xs : List X) → reverse (x ∷ xs) ≡ reverse xs ++ x ∷ []
  reverse-cons x xs = reverse-append (x ∷ []) xs

  all-reverse : (P : X → Type 0) (xs : List X) → AllByRecursion P xs → AllByRecursion P (reverse xs)
  all-reverse P [] h = tt
  all-reverse P (x ∷ xs) h =
      subst (AllByRecursion P) (sym (reverse-cons x xs))
      (all-append P (reverse xs) (x ∷ []) (all-reverse P xs h.1) (h.0, tt))

  all_before : (R : X → X → Type 0) (x : X) (xs : List X) → AllByRecursion (λ y. R y x) xs
      → AllByRecursion (λ y. AllByRecursion (R y) (x ∷ [])) xs
  all_before R x [] h = tt
  all_before R x (y ∷ xs) h = ((h.0, tt), all_before R x xs h.1)

  ascending-reverse : (R : X → X → Type 0) (xs : List X) → IsAscending (λ a b. R b a) xs → IsAscending R (reverse xs)
  ascending-reverse R [] h = tt
  ascending-reverse R (x ∷ xs) h =
      subst (IsAscending R) (sym (reverse-cons x xs))
      (ascending-append R (reverse xs) (x ∷ []) (ascending-reverse R xs h.1) (tt, tt)
      (all_before R x (reverse xs) (all-reverse (λ y. R y x) xs h.0)))

  filter-reverse : (p : X → Bool) (xs : List X) → filter p (reverse xs) ≡ reverse (filter p xs)
  filter-reverse p [] = refl
  filter-reverse p (x ∷ xs) =
      ap (filter p) (reverse-cons x xs) ∙ filter-append p (reverse xs) (x ∷ [])
      ∙ ap (λ l. l ++ filter p (x ∷ [])) (filter-reverse p xs)
      ∙ (elim (p x)
      as (λ b. reverse (filter p xs) ++ cond b (x ∷ []) [] ≡ reverse (cond b (x ∷ filter p xs) (filter p xs)))
      [ true ↦ sym (reverse-cons x (filter p xs)) | false ↦ append-nil (reverse (filter p xs)) ])

  map-first : {Y : Type 0} (f : X → Y) (xs : List X) → map f (take 1 xs) ≡ take 1 (map f xs)
  map-first f [] = refl
  map-first f (x ∷ xs) = refl

module _ {X : Type 0} (cmp : X → X → Ordering) (total : IsTotalOrder cmp) where
  falling_total : IsTotalOrder (λ a b. cmp b a)
  falling_total = record {
    antisymm = λ a b. total.antisymm b a;
    trans = λ a b c h k. total.trans c b a k h;
    congr = λ a b c h. total.antisymm c a ∙ ap ordering_reverse (sym (total.congr b a c h)) ∙ sym (total.antisymm c b);
  }

  -- sorted the other way round they come the other way round
  falls : (xs : List X) → HaveKeys cmp xs → sort_by (λ a b. cmp b a) xs ≡ reverse (sort_by cmp xs)
  falls xs apart =
      let ys = sort_by cmp xs in
      let same : IsPermutation xs ys = IsPermutation-sym _ _ (IsPermutation-sort_by cmp total xs) in
      let rise : Rise cmp ys =
      rise_from_sorted cmp total ys (ascending_permutes _ (apart_back cmp total) xs ys same apart)
      (is_sorted-sort_by cmp total xs) in
      let fall : Rise (λ a b. cmp b a) (reverse ys) = ascending-reverse _ ys rise in
      let loose : HaveKeys (λ a b. cmp b a) xs = ascending_weaker _ _ (apart_back cmp total) xs apart in
      sym (sort_same (λ a b. cmp b a) falling_total xs (reverse ys) loose
      (IsPermutation-trans _ _ _ same (IsPermutation-reverse ys)))
      ∙ rising_sorted (λ a b. cmp b a) falling_total (reverse ys) fall

-- The same columns, in the falling order of the keys.
pub record ShowsFalling {T : Type 0} (t : TypedTable T) {project : List Term} {rising : List (Term × Key)}
    (columns : ShowsColumns t project rising) (falling : List (Term × Key)) : Type 0 where
  pub shows : (terms : List Term) (params r : Row) → t.IsRow r
      → output (plain_query t.base.tree terms project falling) (params ∷ r ∷ [])
      ≡ (columns.key (t.of r), columns.shown (id_in (rowid r)) (t.of r))
  pub orders : (terms : List Term) (i j : ℤ) (a b : T)
      → output_cmp (plain_query t.base.tree terms project falling) (columns.key a, columns.shown i a)
      (columns.key b, columns.shown j b) ≡ t.cmp b a

-- the last of the rows that pass, in the order of their keys
pub shows_last : {T : Type 0} (t : TypedTable T) (law : IsTable t) {project : List Term}
    {rising falling : List (Term × Key)} (columns : ShowsColumns t project rising)
    (falls : ShowsFalling t columns falling)
    (old new : State) (has : old.now.schema ≡ t.schema) {terms : List Term} {text : List ℕ} (params : Row)
    (selects : Selects t.schema text (first_query t.base.tree terms project falling)) (keep : T → Bool)
    (tests : (r : Row) → t.IsRow r → keeps params terms r ≡ keep (t.of r)) (rows : List Row) → IsTypedIn t old.now.trees
    → Shown text params old new rows → ShowsLast t keep rows old.now.trees
shows_last {T} t law {project} {falling = falling} columns down old new has {terms} {text} params selects keep tests
    rows typed showed =
    let all = old.now.trees t.base.tree in
    let pair : Row → ℤ × T = λ r. (id_in (rowid r), t.of r) in
    let second : ℤ × T → T = λ p. p.1 in
    let pairs = map pair all in
    let seconds : map second pairs ≡ map t.of all = map-map second pair all in
    let flipped : T → T → Ordering = λ a b. t.cmp b a in
    let apart : HaveKeys (λ (a b : ℤ × T). t.cmp b.1 a.1) pairs =
    ascending_from_map _ second pairs
    (subst (HaveKeys flipped) (sym seconds)
    (ascending_weaker _ _ (apart_back t.cmp law.total) (map t.of all) typed.keys)) in
    let sorted = sort_by (λ (a b : ℤ × T). t.cmp b.1 a.1) pairs in
    let passed = filter (λ (p : ℤ × T). keep p.1) sorted in
    let read = reads_as text params old new t.schema has _ selects.is selects.plain selects.unlisted rows showed in
    let flipped_total = falling_total t.cmp law.total in
    let pairs_total : IsTotalOrder (λ (a b : ℤ × T). t.cmp b.1 a.1) =
    record {
      antisymm = λ a b. flipped_total.antisymm a.1 b.1;
      trans = λ a b c. flipped_total.trans a.1 b.1 c.1;
      congr =
          λ a b c. flipped_total.congr a.1 b.1 c.1;
    } in
    let read_back : ℤ × T → Type 0 = λ p. t.of (columns.shown p.0 p.1) ≡ p.1 in
    let all_back : AllByRecursion read_back pairs =
    all_map read_back pair all
    (all_weaker t.IsRow (λ r. read_back (pair r)) (λ r is. columns.again (id_in (rowid r)) r is) all typed.read) in
    let back : AllByRecursion read_back passed =
    all-filter read_back (λ (p : ℤ × T). keep p.1) sorted
    (all_permutes read_back pairs sorted
    (IsPermutation-sym _ _ (IsPermutation-sort_by (λ (a b : ℤ × T). t.cmp b.1 a.1) pairs_total pairs)) all_back) in
    let rows_are : rows ≡ take 1 (map (λ (p : ℤ × T). columns.shown p.0 p.1) passed) =
    read_first t.base.tree terms project falling (λ (a b : ℤ × T). t.cmp b.1 a.1) pairs_total
    pair t.IsRow (λ p. columns.shown p.0 p.1) (λ p. columns.key p.1) (λ p. keep p.1) params (down.shows terms params)
    tests (λ a b. down.orders terms a.0 b.0 a.1 b.1)
    old.now.trees rows (record { read = typed.read; rowids = typed.rowids; keys = apart }) read.answer in
    ap (map t.of) rows_are ∙ map-first t.of (map (λ (p : ℤ × T). columns.shown p.0 p.1) passed)
    ∙ ap (take 1)
    (map-map t.of (λ (p : ℤ × T). columns.shown p.0 p.1) passed
    ∙ map_on read_back _ second passed (λ p h. h) back
    ∙ sym (filter-map keep second sorted)
    ∙ ap (filter keep)
    (sym (sort_by-map flipped second pairs) ∙ ap (sort_by flipped) seconds
    ∙ falls t.cmp law.total (map t.of all) typed.keys)
    ∙ filter-reverse keep (rows_in t old.now.trees))
