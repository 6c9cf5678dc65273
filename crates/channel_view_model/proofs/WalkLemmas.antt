-- The walk over the plan: the rows of its first channel in front of a table, and those behind.
use Rattle.std.proofs.Common.{◌≡◌, ◌≢◌, ◌<◌, ◌≤◌, add-one, drop-cons, get_or, ℕ, ◌+◌, List, [], ◌∷◌, ◌++◌, length, take}
use Rattle.std.proofs.Common.{drop, one-add, Bool, true, false, not, cond, ◌&&◌, refl, sym, ◌∙◌, ap, subst, arith}
use Rattle.std.proofs.Common.{take-append-drop, append-nil}
use Rattle.std.specs.Prelude.{◌==◌, ◌||◌, nat_lt, nat_le, map, find, Some, if◌then◌else◌}
use Rattle.std.specs.List.{list_all}
use Rattle.std.proofs.lemmas.Bool.Decides.{nat_tests}
use Rattle.std.proofs.lemmas.List.{drop_all}
use Rattle.std.proofs.lemmas.List.Folds.{list_all-append}
use Rattle.channel_plan.specs.declared.plan.PlanRow.{PlanRow}
use Rattle.channel_view_model.specs.Tables.{Table, rows_alone, rows_of}
use Rattle.channel_view_model.specs.Walk.{others_at, rows_in_front, rows_behind}
use Rattle.channel_view_model.specs.Tables.{is_in_order}
use Rattle.vault_core.specs.declared.tape.Tape.{Tape}
use Rattle.vault_core.specs.declared.clip.Clip.{Clip}
use Rattle.vault_core.specs.declared.offer.Offer.{Offer}
use Rattle.vault_core.specs.Own.{Own}
use Rattle.playlist_core.specs.Day.{Day}
use Rattle.asrun_match.specs.declared.day.DayAsRun.{DayAsRun}
use Rattle.channel_plan.specs.Plan.{is_plan_in_order}
use Rattle.vault_core.specs.Rules.{KeepsOwnRules}
use Rattle.channel_view_model.specs.Centre.{Centre, plan_of, own_of}
use Rattle.channel_view_model.specs.Rules.{is_planned, is_table_of, are_tables, KeepsTables}

module _ {A : Type 0} (c : ℕ) where
  abbrev pub is_of : ℕ × A → Bool
  is_of r = r.0 == c

  -- the first row behind is another's
  abbrev pub is_other_first : Table A → Bool
  is_other_first [] = true
  is_other_first (r ∷ rs) = not (r.0 == c)

  pub front_is_of : (rs : Table A) → list_all is_of (take (others_at c rs) rs) ≡ true
  front_is_of [] = refl
  front_is_of (r ∷ rs) =
      elim (r.0 == c)
      as (λ b. r.0 == c ≡ b → list_all is_of (take (cond (not (not b)) (1 + others_at c rs) 0) (r ∷ rs)) ≡ true) [
        | true ↦ λ e. rw (one-add (others_at c rs)) (grind (arith, e, front_is_of rs))
        | false ↦ λ e. refl
      ] refl

  pub behind_is_other : (rs : Table A) → is_other_first (drop (others_at c rs) rs) ≡ true
  behind_is_other [] = refl
  behind_is_other (r ∷ rs) =
      elim (r.0 == c)
      as (λ b. r.0 == c ≡ b → is_other_first (drop (cond (not (not b)) (1 + others_at c rs) 0) (r ∷ rs)) ≡ true) [
        | true ↦ λ e. rw (one-add (others_at c rs)) (behind_is_other rs)
        | false ↦ λ e. grind (arith, e)
      ] refl

  none_behind : (rs : Table A) → list_all (λ s. nat_lt c s.0) rs ≡ true → rows_of c rs ≡ []
  none_behind [] h = refl
  none_behind (r ∷ rs) h = grind (arith, nat_tests, h, none_behind rs)

  all_in_front : (own : Table A) → list_all is_of own ≡ true → rows_of c own ≡ map (λ r. r.1) own
  all_in_front [] h = refl
  all_in_front (r ∷ own) h = grind (arith, h, all_in_front own)

  none_in_front : (b : ℕ) (own : Table A) → b ≢ c → list_all is_of own ≡ true → rows_of b own ≡ []
  none_in_front b [] differ same = refl
  none_in_front b (r ∷ own) differ same = grind (arith, nat_tests, differ, same, none_in_front b own)

rows_of-append : {A : Type 0} (c : ℕ) (xs ys : Table A) → rows_of c (xs ++ ys) ≡ rows_of c xs ++ rows_of c ys
rows_of-append c [] ys = refl
rows_of-append c (x ∷ xs) ys = grind (arith, rows_of-append c xs ys)

order_behind : {A : Type 0} (xs ys : Table A) → is_in_order (xs ++ ys) ≡ true → is_in_order ys ≡ true
order_behind [] ys h = h
order_behind (x ∷ xs) ys h = order_behind xs ys (grind (arith, h))

-- the plan's first channel is in front of all others
module _ (p : PlanRow) (ps : List PlanRow) (rising : list_all (λ q. nat_lt p.ch q.ch) ps ≡ true) where
  planned_is_behind : (c : ℕ) → is_planned ps c ≡ true → nat_lt p.ch c ≡ true
  planned_is_behind c h = by ps rising h
    where
      by : (qs : List PlanRow) → list_all (λ q. nat_lt p.ch q.ch) qs ≡ true → is_planned qs c ≡ true
          → nat_lt p.ch c ≡ true
      by [] r h = cc
      by (q ∷ qs) r h = grind (arith, nat_tests, r, h, by qs)

  module _ {A : Type 0} where
    planned_are_behind : (rs : Table A) → list_all (λ r. is_planned ps r.0) rs ≡ true
        → list_all (λ s. nat_lt p.ch s.0) rs ≡ true
    planned_are_behind [] h = refl
    planned_are_behind (r ∷ rs) h = grind (arith, h, planned_is_behind r.0, planned_are_behind rs)

    more_planned : (rs : Table A) → list_all (λ r. is_planned ps r.0) rs ≡ true
        → list_all (λ r. is_planned (p ∷ ps) r.0) rs ≡ true
    more_planned [] h = refl
    more_planned (r ∷ rs) h = grind (arith, h, more_planned rs)

    module _ (own behind : Table A) (same : list_all (is_of p.ch) own ≡ true) where
      front_planned : (rs : Table A) → list_all (is_of p.ch) rs ≡ true
          → list_all (λ r. is_planned (p ∷ ps) r.0) rs ≡ true
      front_planned [] h = refl
      front_planned (r ∷ rs) h = grind (arith, nat_tests, h, front_planned rs)

      not_before : (k : ℕ) (xs ys : Table A) → k ≡ p.ch → list_all (is_of p.ch) xs ≡ true
          → list_all (λ s. nat_lt p.ch s.0) ys ≡ true → list_all (λ s. nat_le k s.0) (xs ++ ys) ≡ true
      not_before k [] [] e h b = refl
      not_before k [] (y ∷ ys) e h b = grind (arith, nat_tests, e, b, not_before k [] ys)
      not_before k (x ∷ xs) ys e h b = grind (arith, nat_tests, e, h, not_before k xs ys)

      order_joined : (xs : Table A) → list_all (is_of p.ch) xs ≡ true → list_all (λ s. nat_lt p.ch s.0) behind ≡ true
          → is_in_order behind ≡ true → is_in_order (xs ++ behind) ≡ true
      order_joined [] h b order = order
      order_joined (x ∷ xs) h b order = grind (arith, nat_tests, h, order_joined xs, not_before x.0 xs behind)

      pub table-joined : is_table_of ps behind ≡ true → is_table_of (p ∷ ps) (own ++ behind) ≡ true
      table-joined h =
          let order : is_in_order behind ≡ true = grind (arith, h) in
          let planned : list_all (λ r. is_planned ps r.0) behind ≡ true = grind (arith, h) in
          let whole : list_all (λ r. is_planned (p ∷ ps) r.0) (own ++ behind) ≡ true =
          list_all-append (λ r. is_planned (p ∷ ps) r.0) own behind
          ∙ grind (arith, front_planned own same, more_planned behind planned) in
          grind (arith, order_joined own same (planned_are_behind behind planned) order, whole)

      -- and back
      after_first : (rs : Table A) → is_in_order rs ≡ true → is_other_first p.ch rs ≡ true
          → list_all (λ r. is_planned (p ∷ ps) r.0) rs ≡ true → list_all (λ r. is_planned ps r.0) rs ≡ true
      after_first [] order other h = refl
      after_first (r ∷ rs) order other h =
          let first : is_planned ps r.0 ≡ true = grind (arith, nat_tests, other, h) in
          let before : nat_lt p.ch r.0 ≡ true = planned_is_behind r.0 first in
          let next : is_other_first p.ch rs ≡ true = next_is rs (grind (arith, order)) before in
          grind (arith, first, after_first rs (grind (arith, order)) next (grind (arith, h)))
        where
          next_is : (ss : Table A) → list_all (λ s. nat_le r.0 s.0) ss ≡ true → nat_lt p.ch r.0 ≡ true
              → is_other_first p.ch ss ≡ true
          next_is [] h b = refl
          next_is (s ∷ ss) h b = grind (arith, nat_tests, h, b)

      right : (a b : Bool) → (a && b) ≡ true → b ≡ true
      right true b h = h
      right false b h = cc

      pub table-parted : is_other_first p.ch behind ≡ true → is_table_of (p ∷ ps) (own ++ behind) ≡ true
          → is_table_of ps behind ≡ true
      table-parted other h =
          let order : is_in_order behind ≡ true = order_behind own behind (grind (arith, h)) in
          let whole : list_all (λ r. is_planned (p ∷ ps) r.0) (own ++ behind) ≡ true = grind (arith, h) in
          let planned : list_all (λ r. is_planned (p ∷ ps) r.0) behind ≡ true =
          right (list_all (λ r. is_planned (p ∷ ps) r.0) own) _
          (sym (list_all-append (λ r. is_planned (p ∷ ps) r.0) own behind) ∙ whole) in
          grind (arith, order, after_first behind order other planned)

      pub rows-front : is_table_of ps behind ≡ true → rows_of p.ch (own ++ behind) ≡ map (λ r. r.1) own
      rows-front h =
          rows_of-append p.ch own behind
          ∙ ap (λ rs. rows_of p.ch own ++ rs) (none_behind p.ch behind (planned_are_behind behind (grind (arith, h))))
          ∙ append-nil (rows_of p.ch own)
          ∙ all_in_front p.ch own same

      pub rows-behind : (b : ℕ) → b ≢ p.ch → rows_of b (own ++ behind) ≡ rows_of b behind
      rows-behind b differ =
          rows_of-append b own behind ∙ ap (λ rs. rs ++ rows_of b behind) (none_in_front p.ch b own differ same)

pub found_planned : (plan : List PlanRow) (c : ℕ) (p : PlanRow) → find (λ q. q.ch == c) plan ≡ Some p
    → is_planned plan c ≡ true
found_planned [] c p h = cc
found_planned (q ∷ plan) c p h =
    elim (q.ch == c)
    as (λ b. (if b then Some q else find (λ q. q.ch == c) plan) ≡ Some p → (b || is_planned plan c) ≡ true) [
      | true ↦ λ e. refl
      | false ↦ λ e. found_planned plan c p e
    ] h

-- the tables of a set
pub record Lists : Type 0 where
  pub tapes : Table Tape
  pub clips : Table Clip
  pub offers : Table Offer
  pub days : Table Day
  pub aired : Table DayAsRun

abbrev pub set_of : List PlanRow → Lists → Centre
set_of plan ts =
    record { channels = plan; tapes = ts.tapes; clips = ts.clips; offers = ts.offers; days = ts.days; aired = ts.aired }

-- those of channel c in front, and those behind
abbrev pub front_of : ℕ → Lists → Lists
front_of c ts =
    record {
      tapes = rows_in_front c ts.tapes;
      clips = rows_in_front c ts.clips;
      offers = rows_in_front c ts.offers;
      days =
          ts.days;
      aired = ts.aired;
    }

abbrev pub behind_of : ℕ → Lists → Lists
behind_of c ts =
    record {
      tapes = rows_behind c ts.tapes;
      clips = rows_behind c ts.clips;
      offers = rows_behind c ts.offers;
      days =
          ts.days;
      aired = ts.aired;
    }

-- rows of one channel as its own
abbrev pub own_at : PlanRow → Lists → Own
own_at p ts =
    record { plan = p; tapes = rows_alone ts.tapes; clips = rows_alone ts.clips; offers = rows_alone ts.offers }

all_three : (a b d : Bool) → a ≡ true → b ≡ true → d ≡ true → (a && b && d) ≡ true
all_three a b d h k l = grind (arith, h, k, l)

each_of : (a b d : Bool) → (a && b && d) ≡ true → (a ≡ true) × (b ≡ true) × (d ≡ true)
each_of a b d h = (grind (arith, h), grind (arith, h), grind (arith, h))

-- one turn of the walk
module _ (p : PlanRow) (ps : List PlanRow) (order : is_plan_in_order (p ∷ ps) ≡ true) where
  rising : list_all (λ q. nat_lt p.ch q.ch) ps ≡ true
  rising = grind (arith, order)

  module _ {A : Type 0} (table : Table A) where
    abbrev front : Table A
    front = rows_in_front p.ch table

    abbrev behind : Table A
    behind = rows_behind p.ch table

    table_is : front ++ behind ≡ table
    table_is = take-append-drop (others_at p.ch table) table

    own_is_of : list_all (is_of p.ch) front ≡ true
    own_is_of = front_is_of p.ch table

    -- the table is the plan's where the table behind is that of the rest of it
    joined_table : is_table_of ps behind ≡ true → is_table_of (p ∷ ps) table ≡ true
    joined_table h =
        subst (λ t. is_table_of (p ∷ ps) t ≡ true) table_is (table-joined p ps rising front behind own_is_of h)

    parted_table : is_table_of (p ∷ ps) table ≡ true → is_table_of ps behind ≡ true
    parted_table h =
        table-parted p ps rising front behind own_is_of (behind_is_other p.ch table)
        (subst (λ t. is_table_of (p ∷ ps) t ≡ true) (sym table_is) h)

    first_rows : is_table_of ps behind ≡ true → rows_of p.ch table ≡ map (λ r. r.1) front
    first_rows h =
        subst (λ t. rows_of p.ch t ≡ map (λ r. r.1) front) table_is (rows-front p ps rising front behind own_is_of h)

    other_rows : (c : ℕ) → c ≢ p.ch → rows_of c table ≡ rows_of c behind
    other_rows c differ =
        subst (λ t. rows_of c t ≡ rows_of c behind) table_is (rows-behind p ps rising front behind own_is_of c differ)

  later_differs : (c : ℕ) → is_planned ps c ≡ true → c ≢ p.ch
  later_differs c known = λ same. grind (arith, nat_tests, same, planned_is_behind p ps rising c known)

  module _ (ts : Lists) where
    abbrev pub all_rows : Centre
    all_rows = set_of (p ∷ ps) ts

    abbrev pub later_rows : Centre
    later_rows = set_of ps (behind_of p.ch ts)

    tables-joined : are_tables later_rows ≡ true → are_tables all_rows ≡ true
    tables-joined h =
        let each = each_of _ _ _ h in
        all_three _ _ _ (joined_table ts.tapes each.0) (joined_table ts.clips each.1) (joined_table ts.offers each.2)

    tables-parted : are_tables all_rows ≡ true → are_tables later_rows ≡ true
    tables-parted h =
        let each = each_of _ _ _ h in
        all_three _ _ _ (parted_table ts.tapes each.0) (parted_table ts.clips each.1) (parted_table ts.offers each.2)

    first_own : are_tables later_rows ≡ true → own_of p.ch p all_rows ≡ own_at p (front_of p.ch ts)
    first_own h =
        let each = each_of _ _ _ h in
        λ i. record {
          plan = p;
          tapes = first_rows ts.tapes each.0 i;
          clips = first_rows ts.clips each.1 i;
          offers =
              first_rows ts.offers each.2 i;
        }

    other_own : (c : ℕ) (q : PlanRow) → plan_of c later_rows ≡ Some q → own_of c q all_rows ≡ own_of c q later_rows
    other_own c q known =
        let differ = later_differs c (found_planned ps c q known) in
        λ i. record {
          plan = q;
          tapes = other_rows ts.tapes c differ i;
          clips = other_rows ts.clips c differ i;
          offers =
              other_rows ts.offers c differ i;
        }

    pub joined : KeepsOwnRules (own_at p (front_of p.ch ts)) → KeepsTables later_rows → KeepsTables all_rows
    joined own kept = record { tables = tables-joined kept.tables; own = λ c q known. by c q (p.ch == c) refl known }
      where
        by : (c : ℕ) (q : PlanRow) (b : Bool) → (p.ch == c) ≡ b → (if b then Some p else plan_of c later_rows) ≡ Some q
            → KeepsOwnRules (own_of c q all_rows)
        by c q true is known =
            let here : p.ch ≡ c = grind (arith, nat_tests, is) in
            let row : p ≡ q = cc in
            subst (λ (r : PlanRow). KeepsOwnRules (own_of c r all_rows)) row
            (subst (λ k. KeepsOwnRules (own_of k p all_rows)) here
            (subst KeepsOwnRules (sym (first_own kept.tables)) own))
        by c q false is known = subst KeepsOwnRules (sym (other_own c q known)) (kept.own c q known)

    module _ (kept : KeepsTables all_rows) where
      pub first-kept : KeepsOwnRules (own_at p (front_of p.ch ts))
      first-kept =
          let known : plan_of p.ch all_rows ≡ Some p = grind (arith, nat_tests) in
          subst KeepsOwnRules (first_own (tables-parted kept.tables)) (kept.own p.ch p known)

      pub later-kept : KeepsTables later_rows
      later-kept = record { tables = tables-parted kept.tables; own = λ c q known. at c q known }
        where
          at : (c : ℕ) (q : PlanRow) → plan_of c later_rows ≡ Some q → KeepsOwnRules (own_of c q later_rows)
          at c q known =
              let other : (p.ch == c) ≡ false =
              grind (arith, nat_tests, later_differs c (found_planned ps c q known)) in
              let there : plan_of c all_rows ≡ Some q = grind (arith, other, known) in
              subst KeepsOwnRules (other_own c q known) (kept.own c q there)

-- at the end of the plan no row is left
abbrev pub AreEmpty : Lists → Type 0
AreEmpty ts = (length ts.tapes ≡ 0) × (length ts.clips ≡ 0) × (length ts.offers ≡ 0)

pub none_left : (ts : Lists) → AreEmpty ts → KeepsTables (set_of [] ts)
none_left ts (e, f, g) =
    record
    { tables = all_three _ _ _ (none ts.tapes e) (none ts.clips f) (none ts.offers g); own = λ c p known. absurd (cc) }
  where
    none : {A : Type 0} (table : Table A) → length table ≡ 0 → is_table_of [] table ≡ true
    none [] e = refl
    none (r ∷ rs) e = absurd (omega arith)

pub no_row_left : (ts : Lists) → KeepsTables (set_of [] ts) → AreEmpty ts
no_row_left ts kept =
    let each = each_of _ _ _ kept.tables in
    (none ts.tapes each.0, none ts.clips each.1, none ts.offers each.2)
  where
    none : {A : Type 0} (table : Table A) → is_table_of [] table ≡ true → length table ≡ 0
    none [] h = refl
    none (r ∷ rs) h = absurd (grind (arith, h))

-- the same at a place of the plan
module _ (channels items : List PlanRow) (same : items ≡ channels) (i : ℕ) (d : PlanRow) (lt : i < length items)
    (ts own behind : Lists)
    (front : own ≡ front_of (get_or items i d).ch ts) (back : behind ≡ behind_of (get_or items i d).ch ts)
    (order : is_plan_in_order (drop i channels) ≡ true) where
  here : drop i channels ≡ get_or items i d ∷ drop (i + 1) channels
  here = subst (λ xs. drop i xs ≡ get_or items i d ∷ drop (i + 1) xs) same (rw (add-one i) (drop-cons items i d lt))

  order_here : is_plan_in_order (get_or items i d ∷ drop (i + 1) channels) ≡ true
  order_here = subst (λ ps. is_plan_in_order ps ≡ true) here order

  pub turn-order : is_plan_in_order (drop (i + 1) channels) ≡ true
  turn-order = grind (arith, order_here)

  pub turn-joined : KeepsOwnRules (own_at (get_or items i d) own) → KeepsTables (set_of (drop (i + 1) channels) behind)
      → KeepsTables (set_of (drop i channels) ts)
  turn-joined mine later =
      subst (λ ps. KeepsTables (set_of ps ts)) (sym here)
      (joined (get_or items i d) (drop (i + 1) channels) order_here ts
      (subst (λ os. KeepsOwnRules (own_at (get_or items i d) os)) front mine)
      (subst (λ bs. KeepsTables (set_of (drop (i + 1) channels) bs)) back later))

  module _ (kept : KeepsTables (set_of (drop i channels) ts)) where
    kept_here : KeepsTables (set_of (get_or items i d ∷ drop (i + 1) channels) ts)
    kept_here = subst (λ ps. KeepsTables (set_of ps ts)) here kept

    pub turn-first : KeepsOwnRules (own_at (get_or items i d) own)
    turn-first =
        subst (λ os. KeepsOwnRules (own_at (get_or items i d) os)) (sym front)
        (first-kept (get_or items i d) (drop (i + 1) channels) order_here ts kept_here)

    pub turn-later : KeepsTables (set_of (drop (i + 1) channels) behind)
    turn-later =
        subst (λ bs. KeepsTables (set_of (drop (i + 1) channels) bs)) (sym back)
        (later-kept (get_or items i d) (drop (i + 1) channels) order_here ts kept_here)

-- the walk ends behind the plan
pub at_end : (channels : List PlanRow) (i : ℕ) (ts : Lists) → length channels ≤ i
    → KeepsTables (set_of (drop i channels) ts) ≡ KeepsTables (set_of [] ts)
at_end channels i ts le = ap (λ ps. KeepsTables (set_of ps ts)) (drop_all i channels le)
