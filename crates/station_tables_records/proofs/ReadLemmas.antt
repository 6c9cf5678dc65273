-- What a query on one table answers, as typed rows.
use Rattle.std.proofs.Common.{◌≡◌, ℕ, ℤ, pos, negsuc, take, Bool, true, false, cond, List, [], ◌∷◌, ◌++◌, map, filter}
use Rattle.std.proofs.Common.{flat_map, unwrap_or, None, refl, sym, ap, ap₂, ◌∙◌, subst, subst₂, Ordering}
use Rattle.std.proofs.Common.{IsPermutation}
use Rattle.std.specs.Prelude.{slice_get, nat_le, ◌-◌, ◌^◌}
use Rattle.std.specs.List.{AllByRecursion}
use Rattle.std.specs.Cmp.{IsTotalOrder}
use Rattle.std.proofs.lemmas.List.Sorted.{IsPermutation-map}
use Rattle.sqlite_value.specs.declared.value.Value.TheVariants.{Null}
use Rattle.sqlite_value.specs.declared.keys.Key.{Key}
use Rattle.sqlite_value.specs.Order.{Row}
use Rattle.sqlite_trees.specs.Tree.{Trees}
use Rattle.sqlite_sql.specs.Term.{Term, eval_all}
use Rattle.sqlite_sql.specs.Query.{Query, Output, output, output_cmp, page, IsAnswerAs}
use Rattle.sqlite_sql.specs.Program.{overlay, IsProgramAnswer}
use Rattle.sqlite_sql.proofs.QueryLemmas.{output_cmp_total}
use Rattle.sqlite_keyed.specs.Lists.{sort_by}
use Rattle.sqlite_keyed.proofs.ListLemmas.{map-map, filter-map, ascending-map, ascending-filter, all-filter}
use Rattle.sqlite_keyed.proofs.SortLemmas.{sorted_is-sort_by, sort_by-map}
use Rattle.station_tables_records.specs.Plain.{limited_query, plain_query, first_query, keeps}
use Rattle.station_tables_records.specs.Content.{HaveKeys, IsTyped, content}
use Rattle.station_tables_records.proofs.SortLemmas.{sort-filter}

no_overlay : (db : Trees) (t : ℕ) → overlay db [] t ≡ db t
no_overlay db t =
    elim (nat_le (2 ^ 31) t) as (λ b. unwrap_or (cond b (slice_get [] (t - 2 ^ 31)) None) (db t) ≡ db t)
    [ true ↦ refl | false ↦ refl ]

chosen : (params : Row) (terms : List Term) (rows : List Row)
    → flat_map (λ r. cond (keeps params terms r) ((params ∷ r ∷ []) ∷ []) []) rows
    ≡ map (λ (r : Row). params ∷ r ∷ []) (filter (keeps params terms) rows)
chosen params terms [] = refl
chosen params terms (r ∷ rows) =
    elim (keeps params terms r)
    as (λ b. cond b ((params ∷ r ∷ []) ∷ []) []
    ++ flat_map (λ s. cond (keeps params terms s) ((params ∷ s ∷ []) ∷ []) []) rows
    ≡ map (λ (s : Row). params ∷ s ∷ [])
    (cond b (r ∷ filter (keeps params terms) rows) (filter (keeps params terms) rows)))
    [ true ↦ ap (λ l. (params ∷ r ∷ []) ∷ l) (chosen params terms rows) | false ↦ chosen params terms rows ]

pub map_on : {A B : Type 0} (P : A → Type 0) (f g : A → B) (xs : List A) → ((x : A) → P x → f x ≡ g x)
    → AllByRecursion P xs → map f xs ≡ map g xs
map_on P f g [] same all = refl
map_on P f g (x ∷ xs) same all = ap₂ ◌∷◌ (same x all.0) (map_on P f g xs same all.1)

pub filter_on : {A : Type 0} (P : A → Type 0) (p q : A → Bool) (xs : List A) → ((x : A) → P x → p x ≡ q x)
    → AllByRecursion P xs → filter p xs ≡ filter q xs
filter_on P p q [] same all = refl
filter_on P p q (x ∷ xs) same all = rw (same x all.0) (ap (λ l. cond (q x) (x ∷ l) l) (filter_on P p q xs same all.1))

module _ (tree : ℕ) (terms project : List Term) (order : List (Term × Key)) where
  abbrev query : Query
  query = plain_query tree terms project order

  -- the answer is the rows that pass, in some order
  pub answer_permutes : (db : Trees) (params : Row) (rows : List Row) → IsProgramAnswer [] query db params rows
      → IsPermutation (map (λ (r : Row). eval_all project (params ∷ r ∷ [])) (filter (keeps params terms) (db tree)))
      rows
  answer_permutes db params rows answer =
      let a : IsAnswerAs Null query (overlay db []) params rows = answer Null in
      let found = filter (keeps params terms) (db tree) in
      let staged : a.staged ≡ map (λ (r : Row). params ∷ r ∷ []) found =
      a.grouped
      ∙ ap (λ l. flat_map (λ r. cond (keeps params terms r) ((params ∷ r ∷ []) ∷ []) []) l) (no_overlay db tree)
      ∙ chosen params terms (db tree) in
      let kept : a.kept ≡ map (λ (r : Row). output query (params ∷ r ∷ [])) found =
      a.distinct ∙ ap (map (output query)) staged ∙ map-map (output query) (λ (r : Row). params ∷ r ∷ []) found in
      let same = IsPermutation-map (λ (o : Output). o.1) _ _ (subst (λ k. IsPermutation k a.ordered) kept a.same) in
      subst₂ IsPermutation (map-map (λ (o : Output). o.1) (λ (r : Row). output query (params ∷ r ∷ [])) found)
      (sym a.shown) same

module _ (limit : ℤ) (tree : ℕ) (terms project : List Term) (order : List (Term × Key)) where
  abbrev limited : Query
  limited = limited_query limit tree terms project order

  module _ {T : Type 0} (cmp : T → T → Ordering) (total : IsTotalOrder cmp) (of : Row → T) (IsRow : Row → Type 0)
      (shown sorted_as : T → Row) (keep : T → Bool) (params : Row)
      (shows : (r : Row) → IsRow r → output limited (params ∷ r ∷ []) ≡ (sorted_as (of r), shown (of r)))
      (tests : (r : Row) → IsRow r → keeps params terms r ≡ keep (of r))
      (orders : (a b : T) → output_cmp limited (sorted_as a, shown a) (sorted_as b, shown b) ≡ cmp a b) where
    -- the answer is the page of what the table has, in the order of its keys
    read_paged : (db : Trees) (rows : List Row) → IsTyped cmp of IsRow (db tree)
        → IsProgramAnswer [] limited db params rows
        → rows ≡ page limited params (map shown (filter keep (content cmp of (db tree))))
    read_paged db rows typed answer =
        let a : IsAnswerAs Null limited (overlay db []) params rows = answer Null in
        let all = db tree in
        let found = filter (keeps params terms) all in
        let enc : T → Output = λ t. (sorted_as t, shown t) in
        let ts = map of all in
        let staged : a.staged ≡ map (λ (r : Row). params ∷ r ∷ []) found =
        a.grouped
        ∙ ap (λ l. flat_map (λ r. cond (keeps params terms r) ((params ∷ r ∷ []) ∷ []) []) l) (no_overlay db tree)
        ∙ chosen params terms all in
        let each : map (output limited) (map (λ (r : Row). params ∷ r ∷ []) found) ≡ map enc (map of found) =
        map-map (output limited) (λ (r : Row). params ∷ r ∷ []) found
        ∙ map_on IsRow _ (λ r. enc (of r)) found shows (all-filter IsRow _ all typed.read)
        ∙ sym (map-map enc of found) in
        let passed : map of found ≡ filter keep ts =
        ap (map of) (filter_on IsRow _ (λ r. keep (of r)) all tests typed.read) ∙ sym (filter-map keep of all) in
        let kept : a.kept ≡ map enc (filter keep ts) =
        a.distinct ∙ ap (map (output limited)) staged ∙ each ∙ ap (map enc) passed in
        let apart : HaveKeys cmp (filter keep ts) = ascending-filter _ keep ts typed.keys in
        let same : ◌≡◌ {A = T → T → Ordering} (λ x y. output_cmp limited (enc x) (enc y)) cmp = λ i x y. orders x y i in
        let loose : HaveKeys (output_cmp limited) (map enc (filter keep ts)) =
        ascending-map _ enc _ (subst (λ c. HaveKeys c (filter keep ts)) (sym same) apart) in
        let ordered =
        sorted_is-sort_by (output_cmp limited) (output_cmp_total limited) (map enc (filter keep ts)) a.ordered loose
        (subst (λ k. IsPermutation k a.ordered) kept a.same) a.sorted in
        let settled : a.ordered ≡ map enc (filter keep (sort_by cmp ts)) =
        ordered ∙ sort_by-map (output_cmp limited) enc (filter keep ts)
        ∙ ap (λ c. map enc (sort_by c (filter keep ts))) same
        ∙ ap (map enc) (sort-filter cmp total keep ts typed.keys) in
        a.shown
        ∙ ap (page limited params) (ap (map (λ (o : Output). o.1)) settled ∙ map-map (λ (o : Output). o.1) enc _)

module _ (tree : ℕ) (terms project : List Term) (order : List (Term × Key)) {T : Type 0} (cmp : T → T → Ordering)
    (total : IsTotalOrder cmp) (of : Row → T) (IsRow : Row → Type 0) (shown sorted_as : T → Row) (keep : T → Bool)
    (params : Row)
    (shows : (r : Row) → IsRow r
    → output (plain_query tree terms project order) (params ∷ r ∷ []) ≡ (sorted_as (of r), shown (of r)))
    (tests : (r : Row) → IsRow r → keeps params terms r ≡ keep (of r))
    (orders : (a b : T)
    → output_cmp (plain_query tree terms project order) (sorted_as a, shown a) (sorted_as b, shown b) ≡ cmp a b)
  where
    -- the answer is what the table has, in the order of its keys
    pub read_typed : (db : Trees) (rows : List Row) → IsTyped cmp of IsRow (db tree)
        → IsProgramAnswer [] (plain_query tree terms project order) db params rows
        → rows ≡ map shown (filter keep (content cmp of (db tree)))
    read_typed =
        read_paged (negsuc 0) tree terms project order cmp total of IsRow shown sorted_as keep params shows tests orders

    -- and that of its first row alone the first of it
    pub read_first : (db : Trees) (rows : List Row) → IsTyped cmp of IsRow (db tree)
        → IsProgramAnswer [] (first_query tree terms project order) db params rows
        → rows ≡ take 1 (map shown (filter keep (content cmp of (db tree))))
    read_first =
        read_paged (pos 1) tree terms project order cmp total of IsRow shown sorted_as keep params shows tests orders
