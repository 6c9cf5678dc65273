-- `day_numbered`: the day with this number, there or not.
use Rattle.std.proofs.Common.{◌≡◌, ◌<◌, ◌∙◌, List, [], ◌∷◌, length, Some, None, refl, sym, ap, arith, rules}
use Rattle.std.specs.Prelude.{slice_get, slice_index_or}
use Rattle.channel_view_model.specs.Tables.{of_channel}
use Rattle.channel_view_model.specs.Days.{day_at}
use Rattle.station_tables_records.specs.Inside.{inside}
use Rattle.station_tables_statements.specs.Calls.{set_in}
use Rattle.station_tables_statements.proofs.DayLookLemmas.{has_days, day_there, day_not_there}
use Rattle.station_tables_reading.proofs.day_fetching.day_numbered.Goals as goal

no_first : {X : Type 0} (xs : List X) → length xs ≡ 0 → slice_get xs 0 ≡ None
no_first [] none = refl
no_first (x ∷ xs) none = absurd (omega (arith, none))

first_is : {X : Type 0} (xs : List X) (x : X) → 0 < length xs → x ≡ slice_index_or xs 0 x → slice_get xs 0 ≡ Some x
first_is [] x some is = absurd (omega (arith, some))
first_is (y ∷ xs) x some is = ap Some (sym is)

pub returns-then-is_empty-clause-day : goal.returns-then-is_empty-clause-day
returns-then-is_empty-clause-day g c = λ centre clean planned.
    let old = inside g.S.Store c.args.tx.now in
    let rows = set_in old in
    let plan = c.args.plan.now in
    let are = c.in_ok-days.ensures.days (has_days old centre) clean rows.channels planned in
    let none : length c.in_ok-days.days.items ≡ 0 = search rules in
    c.not_there.ensures
    ∙ day_not_there plan plan.ch c.get-number.result rows.days c.in_ok-days.days.items are
    (no_first c.in_ok-days.days.items none)
    ∙ ap (λ n. day_at plan (of_channel plan.ch rows.days) n) c.get-number.ensures.value

pub returns-clause-day : goal.returns-clause-day
returns-clause-day g c = λ centre clean planned.
    let old = inside g.S.Store c.args.tx.now in
    let rows = set_in old in
    let plan = c.args.plan.now in
    let are = c.in_ok-days.ensures.days (has_days old centre) clean rows.channels planned in
    let some : 0 < length c.in_ok-days.days.items = search rules in
    day_there plan plan.ch c.get-number.result rows.days c.in_ok-days.days.items are c.remove-day.result
    (first_is c.in_ok-days.days.items c.remove-day.result some c.remove-day.ensures.value)
    ∙ ap (λ n. day_at plan (of_channel plan.ch rows.days) n) c.get-number.ensures.value
