-- What is left of the content of a tree after a row is put in, changed or taken out.
use Rattle.std.proofs.Common.{◌≡◌, ◌⊎◌, inl, inr, ℤ, Bool, true, false, not, cond, List, [], ◌∷◌, map, filter, length}
use Rattle.std.proofs.Common.{refl, sym, ap, ap₂, ◌∙◌, subst, subst₂, arith, Ordering, Less, Equal, Greater, is_eq}
use Rattle.std.proofs.Common.{true≢false, IsPermutation}
use Rattle.std.specs.List.{AllByRecursion}
use Rattle.std.specs.Cmp.{IsTotalOrder}
use Rattle.std.specs.Ordering.{match_ordering, ordering_reverse}
use Rattle.std.proofs.lemmas.List.Elements.{recursion_from_All, All-from_recursion}
use Rattle.std.proofs.lemmas.List.Sorted.{All-permutation, IsPermutation-refl, IsPermutation-cons, IsPermutation-trans}
use Rattle.std.proofs.lemmas.List.Sorted.{IsPermutation-sym, IsPermutation-middle, IsPermutation-map}
use Rattle.sqlite_value.specs.declared.value.Value.TheVariants.{Int}
use Rattle.sqlite_value.specs.Order.{Row, value_cmp}
use Rattle.sqlite_value.proofs.OrderLemmas.{value_cmp_total}
use Rattle.sqlite_trees.specs.Tree.{rowid, has_rowid, put_row, without_rowid, IsAscending}
use Rattle.sqlite_rules.specs.Edit.{is_taken}
use Rattle.sqlite_keyed.specs.Lists.{insert_sorted, sort_by, update_where, delete_where}
use Rattle.sqlite_keyed.proofs.ListLemmas.{map-map, filter-map, filter_all, filter_none, all_weaker, all-filter}
use Rattle.sqlite_keyed.proofs.ListLemmas.{none_from_any, ascending-map, ascending_from_map, ascending-filter}
use Rattle.sqlite_keyed.proofs.ListLemmas.{along_permutation, all_kept, all_map, all_unmap, all_of, ascending_weaker}
use Rattle.sqlite_keyed.proofs.SortLemmas.{IsPermutation-sort_by, sort_by-map}
use Rattle.station_tables_records.specs.Content.{AreApart, HaveKeys, content, IsTyped}
use Rattle.station_tables_records.proofs.SortLemmas.{sort_same, sort-filter}
use Rattle.station_tables_records.proofs.ReadLemmas.{map_on}

pub all_permutes : {X : Type 0} (P : X → Type 0) (xs ys : List X) → IsPermutation xs ys → AllByRecursion P xs
    → AllByRecursion P ys
all_permutes P xs ys same all = recursion_from_All P ys (All-permutation P xs ys same (All-from_recursion P xs all))

module _ {X : Type 0} (R : X → X → Type 0) (back : (a b : X) → R a b → R b a) where
  abbrev Moves : List X → List X → Type 0
  Moves xs ys = IsPermutation xs ys × (IsAscending R xs → IsAscending R ys)

  pub ascending_permutes : (xs ys : List X) → IsPermutation xs ys → IsAscending R xs → IsAscending R ys
  ascending_permutes xs ys same = (along_permutation Moves
      (λ xs. (IsPermutation-refl xs, λ h. h))
      (λ x xs ys h. (IsPermutation-cons x xs ys h.0, λ up. (all_permutes (R x) xs ys h.0 up.0, h.1 up.1)))
      (λ x y xs. (IsPermutation-middle (x ∷ []) y xs, λ up. ((back x y up.0.0, up.1.0), (up.0.1, up.1.1))))
      (λ xs ys zs g h. (IsPermutation-trans xs ys zs g.0 h.0, λ up. h.1 (g.1 up))) xs ys same).1

pub turned_eq : (o : Ordering) → is_eq (ordering_reverse o) ≡ is_eq o
turned_eq Less = refl
turned_eq Equal = refl
turned_eq Greater = refl

pub apart_back : {K : Type 0} (cmp : K → K → Ordering) → IsTotalOrder cmp → (a b : K) → is_eq (cmp a b) ≡ false
    → is_eq (cmp b a) ≡ false
apart_back cmp total a b h = ap is_eq (total.antisymm b a) ∙ turned_eq (cmp a b) ∙ h

-- a row with a rowid of its own is put somewhere
pub put_permutes : (new : Row) (rows : List Row)
    → AllByRecursion (λ r. is_eq (value_cmp (rowid r) (rowid new)) ≡ false) rows
    → IsPermutation (new ∷ rows) (put_row new rows)
put_permutes new [] fresh = IsPermutation-refl _
put_permutes new (r ∷ rows) fresh = go (value_cmp (rowid r) (rowid new)) fresh.0 (put_permutes new rows fresh.1)
  where
    go : (o : Ordering) → is_eq o ≡ false → IsPermutation (new ∷ rows) (put_row new rows)
        → IsPermutation (new ∷ r ∷ rows) (match_ordering o (r ∷ put_row new rows) (new ∷ rows) (new ∷ r ∷ rows))
    go Less e more = IsPermutation-trans _ _ _ (IsPermutation-middle (new ∷ []) r rows) (IsPermutation-cons r _ _ more)
    go Equal e more = absurd (true≢false e)
    go Greater e more = IsPermutation-refl _

pub none_passes : {X : Type 0} (p : X → Bool) (xs : List X) → filter p xs ≡ [] → AllByRecursion (λ s. p s ≡ false) xs
none_passes p [] h = tt
none_passes p (x ∷ xs) h = step (p x) refl h (none_passes p xs)
  where
    step : (b : Bool) → p x ≡ b → cond b (x ∷ filter p xs) (filter p xs) ≡ []
        → (filter p xs ≡ [] → AllByRecursion (λ s. p s ≡ false) xs) → AllByRecursion (λ s. p s ≡ false) (x ∷ xs)
    step true q k more = absurd (omega (arith, ap length k))
    step false q k more = (q, more k)

module _ {T : Type 0} (cmp : T → T → Ordering) (total : IsTotalOrder cmp) (of : Row → T) (IsRow : Row → Type 0) where
  abbrev Typed : List Row → Type 0
  Typed = IsTyped cmp of IsRow

  rowid_apart_back : (a b : Row) → is_eq (value_cmp (rowid a) (rowid b)) ≡ false
      → is_eq (value_cmp (rowid b) (rowid a)) ≡ false
  rowid_apart_back a b = apart_back value_cmp value_cmp_total (rowid a) (rowid b)

  pub typed_permutes : (xs ys : List Row) → IsPermutation xs ys → Typed xs → Typed ys
  typed_permutes xs ys same typed = record {
    read = all_permutes IsRow xs ys same typed.read;
    rowids = ascending_permutes _ rowid_apart_back xs ys same typed.rowids;
    keys = ascending_permutes _ (apart_back cmp total) _ _ (IsPermutation-map of xs ys same) typed.keys;
  }

  pub content_permutes : (xs ys : List Row) → IsPermutation xs ys → Typed xs → content cmp of ys ≡ content cmp of xs
  content_permutes xs ys same typed =
      sort_same cmp total (map of xs) (map of ys) typed.keys (IsPermutation-map of xs ys same)

  -- what an answer with the columns that count shows of a tree, in any order
  pub typed_from_answer : (cells : Row → Row) → ((r : Row) → IsRow (cells r) → IsRow r)
      → ((r : Row) → of (cells r) ≡ of r) → ((r : Row) → rowid (cells r) ≡ rowid r) → (all rows : List Row)
      → IsPermutation (map cells all) rows → Typed rows → Typed all
  typed_from_answer cells reads same ids all rows moved typed =
      let back = typed_permutes rows (map cells all) (IsPermutation-sym _ _ moved) typed in
      record {
        read = all_weaker _ IsRow reads all (all_unmap IsRow cells all back.read);
        rowids =
            ascending_weaker _ _ (λ a b h. ap₂ (λ v w. is_eq (value_cmp v w)) (sym (ids a)) (sym (ids b)) ∙ h) all
            (ascending_from_map _ cells all back.rowids);
        keys =
            subst (HaveKeys cmp)
            (map-map of cells all ∙ map_on (λ _. Unit {0}) _ of all (λ r _. same r) (all_of _ (λ _. tt) all)) back.keys;
      }

  -- INSERT
  pub insert_typed : (new : Row) (rows : List Row) → is_taken rows new ≡ false → IsRow new
      → AllByRecursion (λ t. is_eq (cmp (of new) t) ≡ false) (content cmp of rows) → Typed rows
      → Typed (put_row new rows)
      × (content cmp of (put_row new rows) ≡ insert_sorted cmp (of new) (content cmp of rows))
  insert_typed new rows free is fresh typed =
      let apart = none_from_any _ rows free in
      let same = put_permutes new rows apart in
      let more : Typed (new ∷ rows) = record {
        read = (is, typed.read);
        rowids = (all_weaker _ _ (λ r. rowid_apart_back r new) rows apart, typed.rowids);
        keys = (all_permutes _ _ _ (IsPermutation-sort_by cmp total (map of rows)) fresh, typed.keys);
      } in
      (typed_permutes _ _ same more, content_permutes _ _ same more)

  -- DELETE
  pub delete_typed : (p : T → Bool) (rows : List Row) → Typed rows
      → Typed (filter (λ r. not (p (of r))) rows)
      × (content cmp of (filter (λ r. not (p (of r))) rows) ≡ delete_where p (content cmp of rows))
  delete_typed p rows typed =
      let moved : filter (λ t. not (p t)) (map of rows) ≡ map of (filter (λ r. not (p (of r))) rows) =
      filter-map (λ t. not (p t)) of rows in (
        record {
          read = all-filter IsRow _ rows typed.read;
          rowids = ascending-filter _ _ rows typed.rowids;
          keys = subst (HaveKeys cmp) moved (ascending-filter _ _ _ typed.keys);
        },
        ap (sort_by cmp) (sym moved) ∙ sort-filter cmp total (λ t. not (p t)) (map of rows) typed.keys,
      )

  -- an UPDATE that finds no row
  pub none_updated : (p : T → Bool) (f : T → T) (rows : List Row) → filter (λ r. p (of r)) rows ≡ []
      → update_where p f (content cmp of rows) ≡ content cmp of rows
  none_updated p f rows none =
      let away : AllByRecursion (λ t. p t ≡ false) (map of rows) =
      all_map _ of rows (none_passes (λ r. p (of r)) rows none) in
      map_on (λ t. p t ≡ false) _ (λ t. t) _ (λ t h. ap (λ b. cond b (f t) t) h)
      (all_permutes _ _ _ (IsPermutation-sym _ _ (IsPermutation-sort_by cmp total (map of rows))) away)
      ∙ map_itself _
    where
      map_itself : (xs : List T) → map (λ t. t) xs ≡ xs
      map_itself [] = refl
      map_itself (x ∷ xs) = ap (λ l. x ∷ l) (map_itself xs)

  -- the row that passes a test is the one with its rowid
  pub left_rows : (p : Row → Bool) (rows : List Row) (found : Row) (id : ℤ) → AreApart rows → filter p rows ≡ found ∷ []
      → rowid found ≡ Int id
      → without_rowid id rows ≡ filter (λ r. not (p r)) rows
  left_rows p [] found id apart is at = absurd (omega (arith, ap length is))
  left_rows p (r ∷ rows) found id apart is at = go (p r) refl is (left_rows p rows found id apart.1)
    where
      mine : value_cmp (Int id) (Int id) ≡ Equal
      mine = Rattle.std.proofs.lemmas.Cmp.tied_itself value_cmp_total (Int id)

      go : (b : Bool) → p r ≡ b → cond b (r ∷ filter p rows) (filter p rows) ≡ found ∷ []
          → (filter p rows ≡ found ∷ [] → rowid found ≡ Int id → without_rowid id rows ≡ filter (λ s. not (p s)) rows)
          → without_rowid id (r ∷ rows) ≡ filter (λ s. not (p s)) (r ∷ rows)
      go true e here more =
          let first : r ≡ found = cc in
          let none : filter p rows ≡ [] = cc in
          let here_is : has_rowid id r ≡ true =
          ap (λ v. is_eq (value_cmp v (Int id))) (ap rowid first ∙ at) ∙ ap is_eq mine in
          let others : AllByRecursion (λ s. has_rowid id s ≡ false) rows =
          all_weaker _ _
          (λ s h. apart_back value_cmp value_cmp_total (Int id) (rowid s)
          (ap (λ v. is_eq (value_cmp v (rowid s))) (sym (ap rowid first ∙ at)) ∙ h)) rows apart.0 in
          rw (
            e,
            here_is,
            filter_all _ rows
                (all_weaker _ (λ s. not (has_rowid id s) ≡ true) (λ s h. ap not h) rows others),
          )
          (sym (filter_all _ rows
          (all_weaker _ (λ s. not (p s) ≡ true) (λ s h. ap not h) rows (none_passes p rows none))))
      go false e later more =
          let there =
          subst (AllByRecursion (λ s. is_eq (value_cmp (rowid r) (rowid s)) ≡ false)) later
          (all-filter _ p rows apart.0) in
          let other : has_rowid id r ≡ false = ap (λ v. is_eq (value_cmp (rowid r) v)) (sym at) ∙ there.0 in
          rw (e, other) (ap (λ l. r ∷ l) (more later at))

  no_other : (p : T → Bool) → ((a b : T) → p a ≡ true → p b ≡ true → is_eq (cmp a b) ≡ true) → (t : T) → p t ≡ true
      → (xs : List Row) → AllByRecursion (λ u. is_eq (cmp t u) ≡ false) (map of xs)
      → AllByRecursion (λ s. p (of s) ≡ false) xs
  no_other p ties t e [] h = tt
  no_other p ties t e (x ∷ xs) h = (step (p (of x)) refl, no_other p ties t e xs h.1)
    where
      step : (b : Bool) → p (of x) ≡ b → b ≡ false
      step false q = refl
      step true q = absurd (true≢false (sym (ties t (of x) e q) ∙ h.0))

  abbrev AtMostOne : List Row → Type 0
  AtMostOne rows = (rows ≡ []) ⊎ ((found : Row) × (rows ≡ found ∷ []))

  -- of rows with keys, one at most passes a test of the key
  pub at_most_one : (p : T → Bool) → ((a b : T) → p a ≡ true → p b ≡ true → is_eq (cmp a b) ≡ true) → (rows : List Row)
      → HaveKeys cmp (map of rows)
      → AtMostOne (filter (λ r. p (of r)) rows)
  at_most_one p ties [] keys = inl refl
  at_most_one p ties (r ∷ rows) keys = go (p (of r)) refl (at_most_one p ties rows keys.1)
    where
      go : (b : Bool) → p (of r) ≡ b → AtMostOne (filter (λ s. p (of s)) rows)
          → AtMostOne (cond b (r ∷ filter (λ s. p (of s)) rows) (filter (λ s. p (of s)) rows))
      go false e more = more
      go true e more = inr (r, ap (λ l. r ∷ l) (filter_none _ rows (no_other p ties (of r) e rows keys.0)))

  none_changed : (p : Row → Bool) (new : Row) (xs : List Row) → filter p xs ≡ []
      → (filter (λ s. not (p s)) xs ≡ xs) × (map (λ s. cond (p s) new s) xs ≡ xs)
  none_changed p new [] h = (refl, refl)
  none_changed p new (x ∷ xs) h = step (p x) h (none_changed p new xs)
    where
      step : (b : Bool) → cond b (x ∷ filter p xs) (filter p xs) ≡ []
          → (filter p xs ≡ [] → (filter (λ s. not (p s)) xs ≡ xs) × (map (λ s. cond (p s) new s) xs ≡ xs))
          → (cond (not b) (x ∷ filter (λ s. not (p s)) xs) (filter (λ s. not (p s)) xs) ≡ x ∷ xs)
          × (cond b new x ∷ map (λ s. cond (p s) new s) xs ≡ x ∷ xs)
      step true k more = absurd (omega (arith, ap length k))
      step false k more = (ap (λ l. x ∷ l) (more k).0, ap (λ l. x ∷ l) (more k).1)

  -- the one row that passes is replaced
  replaced : (p : Row → Bool) (new : Row) (rows : List Row) (found : Row) → filter p rows ≡ found ∷ []
      → IsPermutation (new ∷ filter (λ r. not (p r)) rows) (map (λ r. cond (p r) new r) rows)
  replaced p new [] found is = absurd (omega (arith, ap length is))
  replaced p new (r ∷ rows) found is = go (p r) refl is (replaced p new rows found)
    where
      go : (b : Bool) → p r ≡ b → cond b (r ∷ filter p rows) (filter p rows) ≡ found ∷ []
          → (filter p rows ≡ found ∷ []
          → IsPermutation (new ∷ filter (λ s. not (p s)) rows) (map (λ s. cond (p s) new s) rows))
          → IsPermutation (new ∷ cond (not b) (r ∷ filter (λ s. not (p s)) rows) (filter (λ s. not (p s)) rows))
          (cond b new r ∷ map (λ s. cond (p s) new s) rows)
      go true e here more =
          let none : filter p rows ≡ [] = cc in
          subst₂ (λ a b. IsPermutation (new ∷ a) (new ∷ b)) (sym (none_changed p new rows none).0)
          (sym (none_changed p new rows none).1) (IsPermutation-refl _)
      go false e later more =
          IsPermutation-trans _ _ _ (IsPermutation-middle (new ∷ []) r _) (IsPermutation-cons r _ _ (more later))

  -- UPDATE: the row that passes gets other columns, and keeps its rowid and key
  module _ (p : T → Bool) (f : T → T) (stays : (a b : T) → cmp (cond (p a) (f a) a) (cond (p b) (f b) b) ≡ cmp a b)
    where
      abbrev turn : T → T
      turn t = cond (p t) (f t) t

      turns : (r found new : Row) → of new ≡ f (of found) → (p (of r) ≡ true → r ≡ found)
          → of (cond (p (of r)) new r) ≡ turn (of r)
      turns r found new made only = go (p (of r)) refl
        where
          go : (b : Bool) → p (of r) ≡ b → of (cond b new r) ≡ cond b (f (of r)) (of r)
          go false e = refl
          go true e = made ∙ ap (λ s. f (of s)) (sym (only e))

      pub update_typed : (rows : List Row) (found new : Row) (id : ℤ) → filter (λ r. p (of r)) rows ≡ found ∷ []
          → rowid found ≡ Int id → rowid new ≡ Int id → IsRow new → of new ≡ f (of found)
          → Typed rows → is_taken (without_rowid id rows) new ≡ false
          → Typed (put_row new (without_rowid id rows))
          × (content cmp of (put_row new (without_rowid id rows)) ≡ update_where p f (content cmp of rows))
      update_typed rows found new id one at new_at is made typed free =
          let left = left_rows (λ r. p (of r)) rows found id typed.rowids one at in
          let gone = without_rowid id rows in
          let apart = none_from_any _ gone free in
          let all = map (λ r. cond (p (of r)) new r) rows in
          let same : IsPermutation all (put_row new gone) =
          IsPermutation-trans _ _ _ (IsPermutation-sym _ _ (replaced (λ r. p (of r)) new rows found one))
          (subst (λ l. IsPermutation (new ∷ l) (put_row new gone)) left (put_permutes new gone apart)) in
          let only : AllByRecursion (λ r. p (of r) ≡ true → r ≡ found) rows =
          all_kept (λ r. r ≡ found) (λ r. p (of r)) rows
          (subst (AllByRecursion (λ r. r ≡ found)) (sym one) (refl, tt)) in
          let turned : map of all ≡ map turn (map of rows) =
          map-map of (λ r. cond (p (of r)) new r) rows
          ∙ map_on _ _ (λ r. turn (of r)) rows (λ r h. turns r found new made h) only ∙ sym (map-map turn of rows) in
          let keys : HaveKeys cmp (map turn (map of rows)) =
          ascending-map _ turn _
          (ascending_weaker _ (λ a b. is_eq (cmp (turn a) (turn b)) ≡ false) (λ a b h. ap is_eq (stays a b) ∙ h) _
          typed.keys) in
          let keyed = subst (HaveKeys cmp) (sym turned) keys in
          let put = put_permutes new gone apart in
          let same_cmp : ◌≡◌ {A = T → T → Ordering} (λ a b. cmp (turn a) (turn b)) cmp = λ i a b. stays a b i in (
            record {
              read = all_permutes IsRow (new ∷ gone) _ put (is, all-filter IsRow _ rows typed.read);
              rowids =
                  ascending_permutes _ rowid_apart_back (new ∷ gone) _ put
                  (all_weaker _ _ (λ r. rowid_apart_back r new) gone apart, ascending-filter _ _ rows typed.rowids);
              keys = ascending_permutes _ (apart_back cmp total) (map of all) _ (IsPermutation-map of _ _ same) keyed;
            },
            sort_same cmp total (map of all) _ keyed (IsPermutation-map of _ _ same) ∙ ap (sort_by cmp) turned
                ∙ sort_by-map cmp turn (map of rows) ∙ ap (λ c. map turn (sort_by c (map of rows))) same_cmp,
          )
