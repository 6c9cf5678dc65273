-- A table that is read channel by channel: what was read is the table, where as many rows were read as it has.
use Rattle.std.proofs.Common.{◌≡◌, ◌≢◌, ℕ, ◌+◌, ℤ, Bool, true, false, true≢false, not, cond, List, [], ◌∷◌, ◌++◌, map}
use Rattle.std.proofs.Common.{filter, length, refl, sym, ap, ap₂, ◌∙◌, subst, subst₂, arith, is_eq, Less, int_cmp}
use Rattle.std.proofs.Common.{IsPermutation, append_assoc, append-nil, length-append, Result, Ok, Err, OnOk, IsTrue}
use Rattle.std.proofs.Common.{Ordering, zero, suc, drop}
use Rattle.std.specs.Prelude.{◌==◌, ◌||◌, is_ok}
use Rattle.std.specs.List.{AllByRecursion, list_all, list_any}
use Rattle.std.proofs.lemmas.Bool.Decides.{nat_tests}
use Rattle.std.proofs.lemmas.Cmp.{int_cmp_total}
use Rattle.std.proofs.lemmas.List.Sorted.{IsPermutation-refl, IsPermutation-sym, IsPermutation-trans}
use Rattle.std.proofs.lemmas.List.Sorted.{IsPermutation-cons, IsPermutation-middle, IsPermutation-append_left}
use Rattle.std.proofs.lemmas.List.Sorted.{IsPermutation-append_right, length_permutation}
use lib.ListN.{length-map}
use Rattle.sqlite_value.specs.declared.value.Value.TheVariants.{Int}
use Rattle.sqlite_value.specs.Order.{Row, value_cmp}
use Rattle.sqlite_trees.specs.Tree.{Trees, rowid, IsAscending}
use Rattle.sqlite_trees.specs.declared.store.Store.{Ghosts}
use Rattle.sqlite.specs.declared.transaction.Transaction.{Transaction}
use Rattle.station_tables_records.specs.Inside.{Reads}
use Rattle.station_tables_records.proofs.InsideLemmas.{reads_on}
use Rattle.sqlite_value.proofs.OrderLemmas.{value_cmp-Int, value_cmp_total}
use Rattle.sqlite_keyed.proofs.ListLemmas.{all-filter, all-append, ascending-filter, ascending-map, ascending_from_map}
use Rattle.sqlite_keyed.proofs.ListLemmas.{ascending_weaker}
use Rattle.sqlite_keyed.proofs.SortLemmas.{IsPermutation-sort_by}
use Rattle.channel_plan.specs.declared.plan.PlanRow.{PlanRow}
use Rattle.channel_plan.specs.declared.refusal.Code.{Code}
use Rattle.station_tables_statements.specs.Standing.{OnCode}
use Rattle.channel_view_model.specs.Rules.{is_planned}
use Rattle.station_tables_records.specs.declared.aired_rows.AiredLine.{AiredLine}
use Rattle.station_tables_records.specs.declared.aired_rows.BatchRow.{BatchRow}
use Rattle.station_tables_records.specs.declared.day_rows.DayRow.{DayRow}
use Rattle.station_tables_records.specs.declared.day_rows.ItemRow.{ItemRow}
use Rattle.station_tables_records.specs.MadeAirings.{AiredSet, MakeAirings, has_its_batch, is_batch}
use Rattle.station_tables_records.specs.MadeDays.{DaySet, MakeDays, has_day, is_day, plan_cmp}
use Rattle.station_tables_statements.proofs.FitLemmas.{left, right}
use Rattle.station_tables_records.specs.Content.{AreApart, HaveKeys, IsTyped, content}
use Rattle.station_tables_records.specs.Table.{TypedTable, IsTable, IsTypedIn, HoldsRows, HoldsFitting, ReadAs}
use Rattle.station_tables_records.specs.Table.{ReadAsNone, rows_in}
use Rattle.station_tables_records.proofs.KeyLemmas.{AreRowids, Rise, differ_from_rising, map_from_zip, rising_sorted}
use Rattle.station_tables_records.proofs.SortLemmas.{sort_same}
use Rattle.station_tables_records.proofs.WriteLemmas.{all_permutes, ascending_permutes, apart_back, typed_permutes}
use Rattle.station_tables_records.proofs.WriteLemmas.{content_permutes}
use Rattle.station_tables_statements.specs.ByChannel.{is_channel, of_channel, ShowsChannel}
use Rattle.station_tables_opening.specs.Parts.{AddsChannel, HoldsPart, ArePlanned}

-- ---- lists

-- what passes, and then what doesn't
parted : {X : Type 0} (p : X → Bool) (xs : List X) → IsPermutation xs (filter p xs ++ filter (λ x. not (p x)) xs)
parted p [] = IsPermutation-refl []
parted p (x ∷ xs) = by (p x) (parted p xs)
  where
    by : (b : Bool) → IsPermutation xs (filter p xs ++ filter (λ x. not (p x)) xs)
        → IsPermutation (x ∷ xs)
        (cond b (x ∷ filter p xs) (filter p xs)
        ++ cond (not b) (x ∷ filter (λ x. not (p x)) xs) (filter (λ x. not (p x)) xs))
    by true more = IsPermutation-cons x _ _ more
    by false more =
        IsPermutation-trans _ _ _ (IsPermutation-cons x _ _ more)
        (IsPermutation-sym _ _ (IsPermutation-middle (filter p xs) x (filter (λ x. not (p x)) xs)))

-- two lists, one behind the other
both_permute : {X : Type 0} (xs ys us vs : List X) → IsPermutation xs ys → IsPermutation us vs
    → IsPermutation (xs ++ us) (ys ++ vs)
both_permute xs ys us vs one two =
    IsPermutation-trans _ _ _ (IsPermutation-append_left us _ _ one) (IsPermutation-append_right ys _ _ two)

map-append : {X Y : Type 0} (f : X → Y) (xs ys : List X) → map f (xs ++ ys) ≡ map f xs ++ map f ys
map-append f [] ys = refl
map-append f (x ∷ xs) ys = ap (λ l. f x ∷ l) (map-append f xs ys)

none_of_others : {X : Type 0} (p : X → Bool) (xs : List X) → filter p (filter (λ x. not (p x)) xs) ≡ []
none_of_others p [] = refl
none_of_others p (x ∷ xs) = by (p x) refl (none_of_others p xs)
  where
    by : (b : Bool) → p x ≡ b → filter p (filter (λ x. not (p x)) xs) ≡ []
        → filter p (cond (not b) (x ∷ filter (λ x. not (p x)) xs) (filter (λ x. not (p x)) xs)) ≡ []
    by true is more = more
    by false is more =
        ap (λ b. cond b (x ∷ filter p (filter (λ x. not (p x)) xs)) (filter p (filter (λ x. not (p x)) xs))) is ∙ more

-- where none passes, none of some of them does
still_none : {X : Type 0} (p q : X → Bool) (xs : List X) → filter p xs ≡ [] → filter p (filter q xs) ≡ []
still_none p q [] none = refl
still_none p q (x ∷ xs) none = by (p x) (q x) refl none (still_none p q xs)
  where
    by : (a b : Bool) → p x ≡ a → cond a (x ∷ filter p xs) (filter p xs) ≡ []
        → (filter p xs ≡ [] → filter p (filter q xs) ≡ []) → filter p (cond b (x ∷ filter q xs) (filter q xs)) ≡ []
    by true b is none more = absurd (let no = none in cc)
    by false true is none more = ap (λ a. cond a (x ∷ filter p (filter q xs)) (filter p (filter q xs))) is ∙ more none
    by false false is none more = more none

first_of : {X : Type 0} (R : X → X → Type 0) (xs ys : List X) → IsAscending R (xs ++ ys) → IsAscending R xs
first_of R [] ys up = tt
first_of R (x ∷ xs) ys up = (among (R x) xs ys up.0, first_of R xs ys up.1)
  where
    among : {X : Type 0} (P : X → Type 0) (xs ys : List X) → AllByRecursion P (xs ++ ys) → AllByRecursion P xs
    among P [] ys all = tt
    among P (x ∷ xs) ys all = (all.0, among P xs ys all.1)

second_of : {X : Type 0} (P : X → Type 0) (xs ys : List X) → AllByRecursion P (xs ++ ys) → AllByRecursion P ys
second_of P [] ys all = all
second_of P (x ∷ xs) ys all = second_of P xs ys all.1

none_from_length : {X : Type 0} (xs : List X) → length xs ≡ 0 → xs ≡ []
none_from_length [] is = refl
none_from_length (x ∷ xs) is = absurd (omega (arith, is))

-- ---- rowids

abbrev Ids : List Row → List ℤ → Type 0
Ids rows ids = IsPermutation (map rowid rows) (map Int ids)

ids_apart : (rows : List Row) (ids sorted : List ℤ) → Ids rows ids → IsPermutation ids sorted → Rise int_cmp sorted
    → AreApart rows
ids_apart rows ids sorted are same rise =
    let apart : IsAscending (λ v w. is_eq (value_cmp v w) ≡ false) (map Int ids) =
    ascending-map (λ v w. is_eq (value_cmp v w) ≡ false) Int ids
    (ascending_weaker _ _ (λ a b h. ap is_eq (value_cmp-Int a b) ∙ h) ids
    (differ_from_rising int_cmp int_cmp_total ids sorted same rise)) in
    ascending_from_map (λ v w. is_eq (value_cmp v w) ≡ false) rowid rows
    (ascending_permutes _ (apart_back value_cmp value_cmp_total) (map Int ids) (map rowid rows)
    (IsPermutation-sym _ _ are) apart)

apart_ids : (rows : List Row) (ids sorted : List ℤ) → Ids rows ids → IsPermutation ids sorted → AreApart rows
    → HaveKeys int_cmp sorted
apart_ids rows ids sorted are same apart =
    let values =
    ascending_permutes _ (apart_back value_cmp value_cmp_total) (map rowid rows) (map Int ids) are
    (ascending-map (λ v w. is_eq (value_cmp v w) ≡ false) rowid rows apart) in
    ascending_permutes _ (apart_back int_cmp int_cmp_total) ids sorted same
    (ascending_weaker _ _ (λ a b h. ap is_eq (sym (value_cmp-Int a b)) ∙ h) ids
    (ascending_from_map (λ v w. is_eq (value_cmp v w) ≡ false) Int ids values))

-- ---- a channel after another

module _ {T : Type 0} (t : TypedTable T) (law : IsTable t) (channel : T → ℕ)
    (by_channel : (c : ℕ) (r : Row) → t.IsRow r → is_channel c r ≡ (channel (t.of r) == c)) where
  -- without the rows of one channel those of another are the same
  others_stay : (c d : ℕ) → c ≢ d → (rows : List Row) → AllByRecursion t.IsRow (filter (is_channel c) rows)
      → filter (is_channel d) (filter (λ r. not (is_channel c r)) rows) ≡ filter (is_channel d) rows
  others_stay c d apart [] all = refl
  others_stay c d apart (r ∷ rows) all = by (is_channel c r) (is_channel d r) refl refl all (others_stay c d apart rows)
    where
      by : (e f : Bool) → is_channel c r ≡ e → is_channel d r ≡ f
          → AllByRecursion t.IsRow (cond e (r ∷ filter (is_channel c) rows) (filter (is_channel c) rows))
          → (AllByRecursion t.IsRow (filter (is_channel c) rows)
          → filter (is_channel d) (filter (λ r. not (is_channel c r)) rows) ≡ filter (is_channel d) rows)
          → filter (is_channel d)
          (cond (not e) (r ∷ filter (λ r. not (is_channel c r)) rows) (filter (λ r. not (is_channel c r)) rows))
          ≡ filter (is_channel d) (r ∷ rows)
      by true true own other all more =
          let here : (channel (t.of r) == c) ≡ true = sym (by_channel c r all.0) ∙ own in
          let there : (channel (t.of r) == d) ≡ true = sym (by_channel d r all.0) ∙ other in
          absurd (apart (grind (arith, nat_tests, here, there)))
      by true false own other all more =
          more all.1 ∙ sym (ap (λ b. cond b (r ∷ filter (is_channel d) rows) (filter (is_channel d) rows)) other)
      by false f own other all more = ap (λ l. cond (is_channel d r) (r ∷ l) l) (more all)

  begun : (all : List Row) (plan : List PlanRow) → HoldsPart t all plan plan [] []
  begun all plan = record {
    seen = [];
    rest = all;
    whole = IsPermutation-refl all;
    read = tt;
    are = IsPermutation-refl [];
    ids_are = IsPermutation-refl [];
    later = each plan;
    gone = λ d here away. absurd (true≢false (sym here ∙ away));
  }
    where
      each : (ps : List PlanRow) → AllByRecursion (λ p. filter (is_channel p.ch) all ≡ filter (is_channel p.ch) all) ps
      each [] = tt
      each (p ∷ ps) = (refl, each ps)

  pub part_begun : (all : List Row) (plan : List PlanRow) → HoldsPart t all plan plan [] []
  part_begun = begun

  module _ (trees : Trees) (plan : List PlanRow) (p : PlanRow) (left : List PlanRow) (rise : Rise plan_cmp (p ∷ left))
    where
      abbrev c : ℕ
      c = p.ch

      abbrev all : List Row
      all = trees t.base.tree

      unlike : (q : PlanRow) → plan_cmp p q ≡ Less → c ≢ q.ch
      unlike q less same = grind (arith, nat_tests, less, same)

      pub part_grown : (old new : List T) (old_ids new_ids : List ℤ) → HoldsPart t all plan (p ∷ left) old old_ids
          → AddsChannel t c trees old new old_ids new_ids → HoldsPart t all plan left new new_ids
      part_grown old new old_ids new_ids part adds =
          let own = filter (is_channel c) part.rest in
          let is_own : own ≡ filter (is_channel c) all = part.later.0 in
          let others = filter (λ r. not (is_channel c r)) part.rest in
          let typed : IsTyped t.cmp t.of t.IsRow own =
          subst (IsTyped t.cmp t.of t.IsRow) (sym is_own) adds.holds.rows.typed in
          let own_are : IsPermutation (map t.of own) adds.more =
          subst (IsPermutation (map t.of own)) (ap (content t.cmp t.of) is_own ∙ adds.holds.rows.are)
          (IsPermutation-sym _ _ (IsPermutation-sort_by t.cmp law.total (map t.of own))) in
          let own_ids : IsPermutation (map rowid own) (map Int adds.more_ids) =
          subst (λ l. IsPermutation (map rowid l) (map Int adds.more_ids)) (sym is_own) adds.holds.ids_are in
          record {
            seen = part.seen ++ own;
            rest = others;
            whole =
                IsPermutation-trans _ _ _ part.whole
                (subst (IsPermutation (part.seen ++ part.rest)) (sym (append_assoc part.seen own others))
                (IsPermutation-append_right part.seen _ _ (parted (is_channel c) part.rest)));
            read = all-append t.IsRow part.seen own part.read typed.read;
            are =
                subst₂ IsPermutation (sym (map-append t.of part.seen own)) (sym adds.list)
                (both_permute _ _ _ _ part.are own_are);
            ids_are =
                subst₂ IsPermutation (sym (map-append rowid part.seen own))
                (sym (map-append Int old_ids adds.more_ids) ∙ ap (map Int) (sym adds.ids))
                (both_permute _ _ _ _ part.ids_are own_ids);
            later = each typed.read left rise.0 part.later.1;
            gone = λ d here away. by d (c == d) refl here away;
          }
        where
          each : AllByRecursion t.IsRow (filter (is_channel c) part.rest) → (qs : List PlanRow)
              → AllByRecursion (λ q. plan_cmp p q ≡ Less) qs
              → AllByRecursion (λ q. filter (is_channel q.ch) part.rest ≡ filter (is_channel q.ch) all) qs
              → AllByRecursion
              (λ q. filter (is_channel q.ch) (filter (λ r. not (is_channel c r)) part.rest)
              ≡ filter (is_channel q.ch) all) qs
          each read [] up same = tt
          each read (q ∷ qs) up same =
              (others_stay c q.ch (unlike q up.0) part.rest read ∙ same.0, each read qs up.1 same.1)

          by : (d : ℕ) (e : Bool) → (c == d) ≡ e → is_planned plan d ≡ true → is_planned left d ≡ false
              → filter (is_channel d) (filter (λ r. not (is_channel c r)) part.rest) ≡ []
          by d true is here away =
              let same : c ≡ d = grind (arith, nat_tests, is) in
              subst (λ e. filter (is_channel e) (filter (λ r. not (is_channel c r)) part.rest) ≡ []) same
              (none_of_others (is_channel c) part.rest)
          by d false is here away = still_none (is_channel d) _ part.rest (part.gone d here (ap₂ ◌||◌ is away))

  -- ---- all of them

  module _ (trees : Trees) (plan : List PlanRow) (list : List T) (ids sorted : List ℤ)
      (part : HoldsPart t (trees t.base.tree) plan [] list ids) where
    abbrev every : List Row
    every = trees t.base.tree

    counted : length every ≡ length list + length part.rest
    counted =
        sym (length_permutation _ _ part.whole) ∙ length-append part.seen part.rest
        ∙ ap (λ n. n + length part.rest) (seen_count (sym (length_permutation _ _ part.are)))
      where
        seen_count : length (map t.of part.seen) ≡ length list → length part.seen ≡ length list
        seen_count is = sym (length-map part.seen t.of) ∙ is

    -- as many rows as the table has, with rowids that differ and keys that rise, are the table
    pub part_whole : length every ≡ length list → Rise t.cmp list → IsPermutation ids sorted → Rise int_cmp sorted
        → HoldsRows t list trees
    part_whole count rise same up =
        let none : part.rest ≡ [] = none_from_length part.rest (omega (arith, count, counted)) in
        let moved : IsPermutation every part.seen =
        subst (IsPermutation every) (ap (λ l. part.seen ++ l) none ∙ append-nil part.seen) part.whole in
        let typed : IsTyped t.cmp t.of t.IsRow part.seen =
        record {
          read = part.read;
          rowids = ids_apart part.seen ids sorted part.ids_are same up;
          keys =
              differ_from_rising t.cmp law.total (map t.of part.seen) list part.are rise;
        } in
        let back = IsPermutation-sym _ _ moved in
        record {
          typed = typed_permutes t.cmp law.total t.of t.IsRow part.seen every back typed;
          are =
              content_permutes t.cmp law.total t.of t.IsRow part.seen every back typed
              ∙ sym (sort_same t.cmp law.total (map t.of part.seen) list typed.keys part.are)
              ∙ rising_sorted t.cmp law.total list rise;
        }

    -- of a table that reads, and whose channels are planned, no row is left
    module _ (typed : IsTypedIn t trees) (planned : ArePlanned channel plan (rows_in t trees)) where
      rows_planned : AllByRecursion (λ v. is_planned plan (channel v) ≡ true) (map t.of every)
      rows_planned = all_permutes _ _ _ (IsPermutation-sort_by t.cmp law.total (map t.of every)) planned

      all_read : AllByRecursion t.IsRow part.rest
      all_read = second_of t.IsRow part.seen part.rest (all_permutes t.IsRow every _ part.whole typed.read)

      all_planned : AllByRecursion (λ r. is_planned plan (channel (t.of r)) ≡ true) part.rest
      all_planned =
          second_of _ part.seen part.rest
          (all_permutes _ every _ part.whole
          (Rattle.sqlite_keyed.proofs.ListLemmas.all_unmap _ t.of every rows_planned))

      no_row : (rows : List Row) → ((d : ℕ) → is_planned plan d ≡ true → filter (is_channel d) rows ≡ [])
          → AllByRecursion t.IsRow rows → AllByRecursion (λ r. is_planned plan (channel (t.of r)) ≡ true) rows
          → rows ≡ []
      no_row [] gone read mine = refl
      no_row (r ∷ rows) gone read mine =
          let d = channel (t.of r) in
          let here : is_channel d r ≡ true = by_channel d r read.0 ∙ grind (arith, nat_tests) in
          absurd
          (let no : r ∷ filter (is_channel d) rows ≡ [] =
          sym (ap (λ b. cond b (r ∷ filter (is_channel d) rows) (filter (is_channel d) rows)) here)
          ∙ gone d mine.0 in cc)

      pub none_left : length every ≡ length list
      none_left =
          counted
          ∙ ap (λ l. length list + length l) (no_row part.rest (λ d here. part.gone d here refl) all_read all_planned)
          ∙ omega arith

    -- nor do two have one rowid
    pub ids_differ : IsTypedIn t trees → IsPermutation ids sorted → HaveKeys int_cmp sorted
    ids_differ typed same =
        apart_ids part.seen ids sorted part.ids_are same
        (first_of _ part.seen part.rest
        (ascending_permutes _ (λ a b. apart_back value_cmp value_cmp_total (rowid a) (rowid b)) every _ part.whole
        typed.rowids))

  -- ---- a channel of a table that reads

  pub typed_channel : (c : ℕ) (trees : Trees) → IsTypedIn t trees → IsTypedIn t (of_channel c trees)
  typed_channel c trees typed = record {
    read = all-filter t.IsRow (is_channel c) (trees t.base.tree) typed.read;
    rowids = ascending-filter _ (is_channel c) (trees t.base.tree) typed.rowids;
    keys =
        ascending-map _ t.of (filter (is_channel c) (trees t.base.tree))
        (ascending-filter _ (is_channel c) (trees t.base.tree)
        (ascending_from_map _ t.of (trees t.base.tree) typed.keys));
  }

  pub unread_channel : (fits : T → Bool) (c : ℕ) (trees : Trees) (rows : List Row) → ShowsChannel t c rows trees
      → ReadAsNone t fits rows → HoldsFitting t fits trees → ⊥
  unread_channel fits c trees rows shows unread holds =
      let typed = typed_channel c trees holds.typed in
      unread (rows_in t (of_channel c trees))
      ((shows.table (rows_in t (of_channel c trees))).1 (record { typed = typed; are = refl }))
      (all_permutes _ _ _
      (IsPermutation-sym _ _ (IsPermutation-sort_by t.cmp law.total (map t.of (of_channel c trees t.base.tree))))
      (Rattle.sqlite_keyed.proofs.ListLemmas.all_map _ t.of _ (all-filter _ (is_channel c) (trees t.base.tree)
      (Rattle.sqlite_keyed.proofs.ListLemmas.all_unmap _ t.of _
      (all_permutes _ _ _ (IsPermutation-sort_by t.cmp law.total (map t.of (trees t.base.tree))) holds.fit)))))

-- ---- a channel that was read

pub code_weaker : {X : Type 0} (r : Result X Code) (code : Code) {P Q : Type 0} → (P → Q) → OnCode r code P
    → OnCode r code Q
code_weaker (Ok x) code f h = tt
code_weaker (Err e) code f h = λ is. f (h is)

pub adds_channel : {T : Type 0} (t : TypedTable T) (c : ℕ) (trees : Trees) (rows : List Row) (old new : List T)
    (old_ids new_ids : List ℤ) → ShowsChannel t c rows trees → {X E : Type 0} (r : Result X E)
    → OnOk r ((more : List T) × ReadAs t rows more × (new ≡ old ++ more))
    → OnOk r ((more : List ℤ) × AreRowids rows more × (new_ids ≡ old_ids ++ more))
    → OnOk r (AddsChannel t c trees old new old_ids new_ids)
adds_channel t c trees rows old new old_ids new_ids shows (Ok x) list ids = record {
  more = list.0;
  more_ids = ids.0;
  holds = record {
    rows = (shows.table list.0).0 list.1;
    ids_are =
        subst (IsPermutation (map rowid (of_channel c trees t.base.tree)))
        (sym (map_from_zip _ rowid Int (λ row id is. sym is) rows ids.0 ids.1)) shows.ids;
  };
  list = list.2;
  ids = ids.2;
}
adds_channel t c trees rows old new old_ids new_ids shows (Err e) list ids = tt

-- a reading that succeeded, with another answer
pub reads_ok : {S X Y E F : Type 0} (g : Ghosts S) (a b : Transaction S) (r : Result X E) {y : Y} → IsTrue (is_ok r)
    → Reads g a b r → Reads {X = Y} {E = F} g a b (Ok y)
reads_ok g a b (Ok x) ok read = reads_on g a b x _ read
reads_ok g a b (Err e) ok read = absurd (true≢false (sym ok))

-- what rises does so from each place on
pub rise_from : {K : Type 0} (cmp : K → K → Ordering) (ks : List K) (i : ℕ) → Rise cmp ks → Rise cmp (drop i ks)
rise_from cmp [] zero up = up
rise_from cmp [] (suc i) up = up
rise_from cmp (k ∷ ks) zero up = up
rise_from cmp (k ∷ ks) (suc i) up = rise_from cmp ks i up.1

-- the same of trees that are the same
pub adds_then : {T : Type 0} (t : TypedTable T) {c : ℕ} {one two : Trees} {old new : List T} {old_ids new_ids : List ℤ}
    → one ≡ two → AddsChannel t c one old new old_ids new_ids → AddsChannel t c two old new old_ids new_ids
adds_then t {c} {one} {two} {old} {new} {old_ids} {new_ids} same adds =
    subst (λ db. AddsChannel t c db old new old_ids new_ids) same adds

-- ---- whose day or batch is planned

-- the channel of one that passes is planned, where each one's is
owner_planned : {X : Type 0} (plan : List PlanRow) (channel : X → ℕ) (test : X → Bool) (c : ℕ)
    → ((x : X) → test x ≡ true → (channel x == c) ≡ true) → (xs : List X)
    → list_all (λ x. is_planned plan (channel x)) xs ≡ true → list_any test xs ≡ true → is_planned plan c ≡ true
owner_planned plan channel test c is [] all there = absurd (true≢false (sym there))
owner_planned plan channel test c is (x ∷ xs) all there =
    by (test x) refl there (owner_planned plan channel test c is xs (right _ _ all))
  where
    by : (b : Bool) → test x ≡ b → (b || list_any test xs) ≡ true → (list_any test xs ≡ true → is_planned plan c ≡ true)
        → is_planned plan c ≡ true
    by true own there more =
        let same : channel x ≡ c = let eq = is x own in grind (arith, nat_tests, eq) in
        subst (λ d. is_planned plan d ≡ true) same (left _ _ all)
    by false own there more = more there

pub items_planned : (plan : List PlanRow) (set : DaySet) → MakeDays plan set
    → ArePlanned (λ (r : ℕ × ItemRow). r.0) plan set.items
items_planned plan set makes = each set.items makes.owned
  where
    each : (rs : List (ℕ × ItemRow)) → list_all (has_day set.days) rs ≡ true
        → ArePlanned (λ (r : ℕ × ItemRow). r.0) plan rs
    each [] owned = tt
    each (r ∷ rs) owned = (
      owner_planned plan (λ (d : ℕ × DayRow). d.0) (is_day r.0 r.1.day) r.0 (λ d is. grind (arith, nat_tests, is))
          set.days makes.planned (left _ _ owned),
      each rs (right _ _ owned),
    )

pub lines_planned : (plan : List PlanRow) (set : AiredSet) → MakeAirings plan set
    → ArePlanned (λ (r : ℕ × AiredLine). r.0) plan set.lines
lines_planned plan set makes = each set.lines makes.whole.owned
  where
    each : (rs : List (ℕ × AiredLine)) → list_all (has_its_batch set.batches) rs ≡ true
        → ArePlanned (λ (r : ℕ × AiredLine). r.0) plan rs
    each [] owned = tt
    each (r ∷ rs) owned = (
      owner_planned plan (λ (b : ℕ × BatchRow). b.0) (is_batch r.0 r.1.day r.1.batch) r.0
          (λ b is. grind (arith, nat_tests, is)) set.batches makes.planned (left _ _ owned),
      each rs (right _ _ owned),
    )
