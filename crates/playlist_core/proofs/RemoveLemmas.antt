-- What taking an item out does to a day.
use Rattle.std.proofs.Common.{◌≡◌, ◌⊎◌, inl, inr, ℕ, ◌+◌, ◌-◌, ◌<◌, ◌≤◌, List, [], ◌∷◌, length, get_or, Bool, true}
use Rattle.std.proofs.Common.{false, cond, not, ◌||◌, Some, None, one-add, refl, sym, ◌∙◌, ap, subst, arith}
use Rattle.std.specs.Prelude.{◌==◌, map, filter, find, position, remove, if◌then◌else◌}
use Rattle.std.specs.List.{list_any, list_all, position_or_len}
use Rattle.std.proofs.lemmas.Bool.{cases_lt, lt-ltb}
use Rattle.std.proofs.lemmas.Bool.Decides.{nat_tests}
use Rattle.playlist_core.specs.declared.item.Item.{Item}
use Rattle.playlist_core.specs.declared.day.DayState.TheVariants.{Open}
use Rattle.playlist_core.specs.Picture.{covers}
use Rattle.playlist_core.specs.Order.{end_of, AreApart}
use Rattle.playlist_core.specs.Item.{Cell, planned, is_item}
use Rattle.playlist_core.specs.Day.{Day, KeepsDayRules, FitState, AreNumbered, has_number, without_item, erased}
use Rattle.playlist_core.specs.Day.{picture_without, picture_in}
use Rattle.playlist_core.proofs.PictureLemmas.{table_same, map-table, shown, shown_before, covers_within, picture_is}
use Rattle.playlist_core.proofs.OrderLemmas.{apart_filter}

abbrev pub has : ℕ → Item → Bool
has n i = i.n == n

-- all others
abbrev pub others : ℕ → List Item → List Item
others n items = filter (λ i. not (i.n == n)) items

others_none : (n : ℕ) (items : List Item) → has_number items n ≡ false → others n items ≡ items
others_none n [] none = refl
others_none n (i ∷ is) none = grind (arith, nat_tests, none, others_none n is)

pub removed : (n : ℕ) (items : List Item) → AreNumbered items
    → remove items (position_or_len (has n) items) ≡ others n items
removed n [] numbered = refl
removed n (i ∷ is) numbered = by (i.n == n) refl (removed n is numbered.3)
  where
    by : (b : Bool) → (i.n == n) ≡ b → remove is (position_or_len (has n) is) ≡ others n is
        → remove (i ∷ is) (cond (not (i.n == n)) (1 + position_or_len (has n) is) 0)
        ≡ cond (not (i.n == n)) (i ∷ others n is) (others n is)
    by true here rest =
        let same : i.n ≡ n = grind (arith, nat_tests, here) in
        ap (λ b. remove (i ∷ is) (cond (not b) (1 + position_or_len (has n) is) 0)) here
        ∙ sym (others_none n is (ap (has_number is) (sym same) ∙ numbered.2))
        ∙ sym (ap (λ b. cond (not b) (i ∷ others n is) (others n is)) here)
    by false here rest =
        ap (λ b. remove (i ∷ is) (cond (not b) (1 + position_or_len (has n) is) 0)) here
        ∙ ap (remove (i ∷ is)) (one-add (position_or_len (has n) is))
        ∙ ap (λ is. i ∷ is) rest
        ∙ sym (ap (λ b. cond (not b) (i ∷ others n is) (others n is)) here)

-- where it stands
pub found_at : {R : Type 0} (p : R → Bool) (rows : List R) (k : ℕ) → Some k ≡ position p rows
    → (k ≡ position_or_len p rows) × (k < length rows)
found_at p rows k h = grind (arith, nat_tests, h)

pub find_here : {R : Type 0} (p : R → Bool) (rows : List R) (d : R) → position_or_len p rows < length rows
    → find p rows ≡ Some (get_or rows (position_or_len p rows) d)
find_here p [] d lt = absurd (omega arith)
find_here p (r ∷ rs) d lt =
    elim (p r)
    as (λ b. cond (not b) (1 + position_or_len p rs) 0 < length (r ∷ rs)
    → cond b (Some r) (find p rs) ≡ Some (get_or (r ∷ rs) (cond (not b) (1 + position_or_len p rs) 0) d)) [
      | true ↦ λ lt. refl
      | false ↦ λ lt. find_here p rs d (omega arith)
          ∙ ap (λ k. Some (get_or (r ∷ rs) k d)) (sym (one-add (position_or_len p rs)))
    ] lt

nowhere : {R : Type 0} (p : R → Bool) (rows : List R) → length rows ≤ position_or_len p rows → list_any p rows ≡ false
nowhere p [] le = refl
nowhere p (r ∷ rs) le =
    elim (p r) as (λ b. length (r ∷ rs) ≤ cond (not b) (1 + position_or_len p rs) 0 → (b || list_any p rs) ≡ false) [
      | true ↦ λ le. absurd (omega arith)
      | false ↦ λ le. nowhere p rs (omega arith)
    ] le

pub found_nowhere : (n : ℕ) (items : List Item) → None ≡ position (has n) items → has_number items n ≡ false
found_nowhere n items h = nowhere (has n) items (by (cases_lt (position_or_len (has n) items) (length items)))
  where
    by : (position_or_len (has n) items < length items) ⊎ (length items ≤ position_or_len (has n) items)
        → length items ≤ position_or_len (has n) items
    by (inl lt) =
        absurd
        (let some =
        ap (λ b. cond b (Some (position_or_len (has n) items)) None)
        (lt-ltb (position_or_len (has n) items) (length items) lt) in cc)
    by (inr le) = le

pub find_none : (n : ℕ) (items : List Item) → has_number items n ≡ false → None ≡ find (has n) items
find_none n [] none = refl
find_none n (i ∷ is) none = grind (arith, nat_tests, none, find_none n is)

numbered_others : (n : ℕ) (items : List Item) → AreNumbered items → AreNumbered (others n items)
numbered_others n [] numbered = tt
numbered_others n (i ∷ is) numbered =
    let rest = numbered_others n is numbered.3 in
    elim (not (i.n == n)) as (λ b. AreNumbered (cond b (i ∷ others n is) (others n is))) [
      | true ↦ (numbered.0, numbered.1, still_none i.n is numbered.2, rest)
      | false ↦ rest
    ]
  where
    still_none : (m : ℕ) (items : List Item) → has_number items m ≡ false → has_number (others n items) m ≡ false
    still_none m [] none = refl
    still_none m (j ∷ js) none = grind (arith, nat_tests, none, still_none m js)

fields_others : (n : ℕ) (items : List Item) → list_all is_item items ≡ true → list_all is_item (others n items) ≡ true
fields_others n [] fields = refl
fields_others n (i ∷ is) fields =
    let rest : list_all is_item (others n is) ≡ true = fields_others n is (grind (arith, fields)) in
    elim (not (i.n == n)) as (λ b. list_all is_item (cond b (i ∷ others n is) (others n is)) ≡ true) [
      | true ↦ grind (arith, fields, rest)
      | false ↦ rest
    ]

pub rules-without_item : (n : ℕ) (day : Day) → day.state ≡ Open → KeepsDayRules day → KeepsDayRules (without_item n day)
rules-without_item n day is_open rules = record {
  some = rules.some;
  digits = rules.digits;
  apart = apart_filter planned (λ i. not (i.n == n)) 0 day.frames day.items rules.apart;
  numbered = numbered_others n day.items rules.numbered;
  fields = fields_others n day.items rules.fields;
  state = subst (λ state. FitState state day.frames (others n day.items)) (sym is_open) tt;
}

shown-others : (n from to : ℕ) (items : List Item) (q : ℕ) → AreApart planned from to items
    → shown planned (others n items) q ≡ erased n (shown planned items q)
shown-others n from to [] q apart = refl
shown-others n from to (i ∷ is) q apart =
    by (i.n == n) (covers i.pos i.frames q) refl refl (shown-others n (end_of (planned i)) to is q apart.2)
  where
    cell : Cell
    cell = (planned i).shows (q - i.pos)

    -- by whether the item is taken out, and by whether it covers the place
    left : (b : Bool) → (i.n == n) ≡ b
        → shown planned (others n (i ∷ is)) q ≡ shown planned (cond (not b) (i ∷ others n is) (others n is)) q
    left b same = ap (λ b. shown planned (cond (not b) (i ∷ others n is) (others n is)) q) same

    right : (c : Bool) → covers i.pos i.frames q ≡ c
        → erased n (shown planned (i ∷ is) q) ≡ erased n (if c then Some cell else shown planned is q)
    right c here = ap (λ c. erased n (if c then Some cell else shown planned is q)) here

    by : (b c : Bool) → (i.n == n) ≡ b → covers i.pos i.frames q ≡ c
        → shown planned (others n is) q ≡ erased n (shown planned is q)
        → shown planned (others n (i ∷ is)) q ≡ erased n (shown planned (i ∷ is) q)
    by true true same here rest =
        left true same
        ∙ shown_before planned (end_of (planned i)) to (others n is) q
        (apart_filter planned (λ i. not (i.n == n)) (end_of (planned i)) to is apart.2)
        (covers_within i.pos i.frames q here)
        ∙ sym (right true here ∙ ap (λ b. if b then None else Some cell) same)
    by true false same here rest = left true same ∙ rest ∙ sym (right false here)
    by false true same here rest =
        left false same
        ∙ ap (λ c. if c then Some cell else shown planned (others n is) q) here
        ∙ sym (right true here ∙ ap (λ b. if b then None else Some cell) same)
    by false false same here rest =
        left false same
        ∙ ap (λ c. if c then Some cell else shown planned (others n is) q) here
        ∙ rest
        ∙ sym (right false here)

pub picture-without_item : (n : ℕ) (day : Day) → KeepsDayRules day
    → picture_in (without_item n day) ≡ picture_without n (picture_in day)
picture-without_item n day rules =
    picture_is planned day.frames (others n day.items)
    ∙ table_same (shown planned (others n day.items)) (λ q. erased n (shown planned day.items q)) 0 day.frames
    (λ q le lt. shown-others n 0 day.frames day.items q rules.apart)
    ∙ sym (map-table (erased n) (shown planned day.items) 0 day.frames)
    ∙ ap (map (erased n)) (sym (picture_is planned day.frames day.items))

-- the day after the item at the place that was found is taken out
pub removed_day : (n : ℕ) (day : Day) (read : List Item) (k : ℕ) (items : List Item) → KeepsDayRules day
    → read ≡ day.items → Some k ≡ position (has n) read → items ≡ remove day.items k
    → record day { items = items } ≡ without_item n day
removed_day n day read k items rules same found out =
    let at = found_at (has n) day.items k (found ∙ ap (position (has n)) same) in
    ap (λ (is : List Item). let d : Day = record day { items = is } in d)
    (out ∙ ap (remove day.items) at.0 ∙ removed n day.items rules.numbered)

-- no item is found where none has the number
pub found_none : (n : ℕ) (day : Day) (read : List Item) → read ≡ day.items → None ≡ position (has n) read
    → None ≡ find (has n) day.items
found_none n day read same none = find_none n day.items (found_nowhere n day.items (none ∙ ap (position (has n)) same))

-- what was taken out is what is found
pub found_item : (n : ℕ) (day : Day) (read : List Item) (k : ℕ) (item : Item) → read ≡ day.items
    → Some k ≡ position (has n) read → item ≡ get_or day.items k item → Some item ≡ find (has n) day.items
found_item n day read k item same found out =
    let at = found_at (has n) day.items k (found ∙ ap (position (has n)) same) in
    let within : position_or_len (has n) day.items < length day.items = omega (arith, at.0, at.1) in
    ap (λ (i : Item). Some i) (out ∙ ap (λ j. get_or day.items j item) at.0)
    ∙ sym (find_here (has n) day.items item within)

-- the day stays where there is none
pub kept_day : (n : ℕ) (day : Day) (read : List Item) → read ≡ day.items → None ≡ position (has n) read
    → day ≡ without_item n day
kept_day n day read same none =
    ap (λ (is : List Item). let d : Day = record day { items = is } in d)
    (sym (others_none n day.items (found_nowhere n day.items (none ∙ ap (position (has n)) same))))
