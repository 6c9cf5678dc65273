-- The day that a channel's rows make, as it is asked of the set.
use Rattle.std.proofs.Common.{◌≡◌, ℕ, Bool, true, false, cond, ◌&&◌, List, [], ◌∷◌, map, filter, Option, Some, None}
use Rattle.std.proofs.Common.{refl, sym, ap, ◌∙◌, subst, arith, true≢false}
use Rattle.std.specs.Prelude.{◌==◌, find, is_some}
use Rattle.std.specs.List.{list_all, list_any}
use Rattle.std.specs.Option.{option_map}
use Rattle.std.proofs.lemmas.Bool.Decides.{nat_tests}
use Rattle.sqlite_keyed.specs.Lists.{sort_by}
use Rattle.channel_plan.specs.declared.plan.PlanRow.{PlanRow}
use Rattle.playlist_core.specs.declared.item.Item.{Item}
use Rattle.playlist_core.specs.Day.{Day}
use Rattle.channel_view_model.specs.Tables.{of_channel}
use Rattle.channel_view_model.specs.Days.{no_day, day_or, day_at}
use Rattle.station_tables_records.specs.declared.day_rows.DayRow.{DayRow}
use Rattle.station_tables_records.specs.declared.day_rows.ItemRow.{ItemRow}
use Rattle.station_tables_records.specs.MadeDays.{DaySet, position_cmp, is_day, is_of_day, items_at, has_day, state_in}
use Rattle.station_tables_records.specs.MadeDays.{frames_of, made_day, day_made, days_made}
use Rattle.station_tables_statements.specs.DayCalls.{row_in, MakesDay}
use Rattle.station_tables_writing.proofs.DayWriteLemmas.{some_found}

found_in_map : {X Y : Type 0} (f : X → Y) (p : Y → Bool) (xs : List X)
    → find p (map f xs) ≡ option_map f (find (λ x. p (f x)) xs)
found_in_map f p [] = refl
found_in_map f p (x ∷ xs) =
    elim (p (f x))
    as (λ b. cond b (Some (f x)) (find p (map f xs)) ≡ option_map f (cond b (Some x) (find (λ y. p (f y)) xs)))
    [ true ↦ refl | false ↦ found_in_map f p xs ]

found_passes : {X : Type 0} (p : X → Bool) (xs : List X) (x : X) → find p xs ≡ Some x → p x ≡ true
found_passes p [] x found = absurd (cc)
found_passes p (y ∷ ys) x found = by (p y) refl (found_passes p ys x) found
  where
    by : (b : Bool) → p y ≡ b → (find p ys ≡ Some x → p x ≡ true) → cond b (Some y) (find p ys) ≡ Some x → p x ≡ true
    by true passes rest is = let same : y ≡ x = cc in ap p (sym same) ∙ passes
    by false other rest is = rest is

-- a day that isn't there has no items
no_items : (c n : ℕ) (days : List (ℕ × DayRow)) (items : List (ℕ × ItemRow)) → list_all (has_day days) items ≡ true
    → list_any (is_day c n) days ≡ false → items_at c n items ≡ []
no_items c n days [] owned none = refl
no_items c n days (r ∷ rs) owned none = by (is_of_day c n r) refl (no_items c n days rs (grind (arith, owned)) none)
  where
    own : has_day days r ≡ true
    own = grind (arith, owned)

    by : (b : Bool) → is_of_day c n r ≡ b → items_at c n rs ≡ []
        → map (λ (s : ℕ × ItemRow). s.1.item) (cond b (r ∷ filter (is_of_day c n) rs) (filter (is_of_day c n) rs)) ≡ []
    by true mine rest =
        let ch : r.0 ≡ c = grind (arith, nat_tests, mine) in
        let day : r.1.day ≡ n = grind (arith, nat_tests, mine) in
        absurd
        (true≢false
        (sym (sym (ap (λ k. list_any (is_day k r.1.day) days) ch ∙ ap (λ m. list_any (is_day c m) days) day) ∙ own)
        ∙ none))
    by false other rest = rest

row_again : (c frames : ℕ) (items : List Item) (n : ℕ) (sealed : Bool)
    → Some (c, record { number = n; sealed = sealed })
    ≡ row_in (state_in sealed) c (made_day frames items (record { number = n; sealed = sealed }))
row_again c frames items n true = refl
row_again c frames items n false = refl

-- the channel's day of a number is the one that its rows make
pub makes_day : (plan : PlanRow) (channels : List PlanRow) (c n : ℕ) (rows : DaySet)
    → list_all (has_day rows.days) rows.items ≡ true
    → MakesDay c (day_at plan (of_channel c (days_made channels rows)) n) rows
makes_day plan channels c n rows owned = by (find (is_day c n) rows.days) refl
  where
    made : ℕ × DayRow → Day
    made r = (day_made channels rows.items r).1

    fused : (o : Option (ℕ × DayRow))
        → option_map (λ (r : ℕ × Day). r.1) (option_map (day_made channels rows.items) o)
        ≡ option_map (λ r. (day_made channels rows.items r).1) o
    fused None = refl
    fused (Some r) = refl

    day_is : (o : Option (ℕ × DayRow)) → find (is_day c n) rows.days ≡ o
        → day_at plan (of_channel c (days_made channels rows)) n
        ≡ day_or (no_day plan n) (option_map (λ r. (day_made channels rows.items r).1) o)
    day_is o is =
        ap (λ f. day_or (no_day plan n) (option_map (λ (r : ℕ × Day). r.1) f))
        (found_in_map (day_made channels rows.items) (λ (r : ℕ × Day). r.0 == c && r.1.number == n) rows.days)
        ∙ ap (λ f. day_or (no_day plan n) f) (fused (find (is_day c n) rows.days))
        ∙ ap (λ f. day_or (no_day plan n) (option_map (λ r. (day_made channels rows.items r).1) f)) is

    by : (o : Option (ℕ × DayRow)) → find (is_day c n) rows.days ≡ o
        → MakesDay c (day_at plan (of_channel c (days_made channels rows)) n) rows
    by None is =
        let none : list_any (is_day c n) rows.days ≡ false = some_found (is_day c n) rows.days ∙ ap is_some is in
        subst (λ d. MakesDay c d rows) (sym (day_is None is))
        (record
        { row = is; items = sym (ap (sort_by position_cmp) (no_items c n rows.days rows.items owned none)) })
    by (Some r) is =
        let mine : is_day c n r ≡ true = found_passes (is_day c n) rows.days r is in
        let ch : r.0 ≡ c = grind (arith, nat_tests, mine) in
        let number : r.1.number ≡ n = grind (arith, nat_tests, mine) in
        subst (λ d. MakesDay c d rows) (sym (day_is (Some r) is))
        (record {
          row =
              ap (λ m. find (is_day c m) rows.days) number ∙ is ∙ ap (λ k. Some (k, r.1)) ch
              ∙ row_again c (frames_of channels r.0) (items_at r.0 r.1.number rows.items) r.1.number r.1.sealed;
          items = ap (λ k. sort_by position_cmp (items_at k r.1.number rows.items)) ch;
        })
