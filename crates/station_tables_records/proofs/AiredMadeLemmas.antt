-- What rows say was aired, and whether they have holes.
use Rattle.std.proofs.Common.{◌≡◌, ℕ, ◌<◌, List, [], ◌∷◌, Bool, true, false, Some, refl, sym, ap, ap₂, ◌∙◌, arith}
use Rattle.std.proofs.Common.{get_or, length, filter}
use Rattle.std.specs.Prelude.{◌==◌, ◌||◌, find, if◌then◌else◌}
use Rattle.std.proofs.lemmas.Bool.Decides.{nat_tests}
use Rattle.sqlite_keyed.proofs.ListLemmas.{all_from_test, all_unmap, all_kept, any_from_none, all_of}
use Rattle.sqlite_trees.proofs.ListLemmas.{all-get_or}
use Rattle.channel_plan.specs.declared.plan.PlanRow.{PlanRow}
use Rattle.asrun_match.specs.Aired.{KeepsAiringRules}
use Rattle.station_tables_records.specs.declared.aired_rows.BatchRow.{BatchRow}
use Rattle.timecode.specs.Counting.{day_length}
use Rattle.station_tables_records.specs.MadeDays.{frames_in, frames_of}
use Rattle.station_tables_records.specs.MadeAirings.{AiredSet, airing_of_rows, airing_made, is_first, is_batch_behind}
use Rattle.station_tables_records.specs.MadeAirings.{follows_batch, is_planned_batch, MakeAirings}

-- ---- no row comes before one with number 0

no_batch_behind : (b a : ℕ × BatchRow) → b.1.number ≡ 0 → is_batch_behind b a ≡ false
no_batch_behind b a zero_is = grind (arith, nat_tests, zero_is)

pub batch_zero : (bs : List (ℕ × BatchRow)) (b : ℕ × BatchRow) → b.1.number ≡ 0 → false ≡ follows_batch bs b
batch_zero bs b zero_is =
    let other : (b.1.number == 1) ≡ false = grind (arith, nat_tests, zero_is) in
    sym (ap₂ (λ x y. x || y) other
    (any_from_none (is_batch_behind b) bs (all_of _ (λ a. no_batch_behind b a zero_is) bs)))

-- an airing that breaks the rules is none of those that rows make
pub refused_at : (plan : List PlanRow) (set : AiredSet) (i : ℕ) (d : ℕ × BatchRow) → i < length set.batches
    → is_first (get_or set.batches i d) ≡ true
    → (is_planned_batch plan (get_or set.batches i d) ≡ true
    → KeepsAiringRules (airing_made plan set (get_or set.batches i d)).1.aired → ⊥) → MakeAirings plan set → ⊥
refused_at plan set i d lt first bad made =
    bad
    (all-get_or (λ b. is_planned_batch plan b ≡ true) set.batches i d
    (all_from_test (is_planned_batch plan) set.batches made.planned) lt)
    (all-get_or (λ b. is_first b ≡ true → KeepsAiringRules (airing_made plan set b).1.aired) set.batches i d
    (all_kept (λ b. KeepsAiringRules (airing_made plan set b).1.aired) is_first set.batches
    (all_unmap (λ a. KeepsAiringRules a.1.aired) (airing_made plan set) (filter is_first set.batches) made.rules))
    lt first)

-- ---- a planned channel

found_channel : (c : ℕ) (plan : List PlanRow) (p : PlanRow) → Some p ≡ find (λ q. q.ch == c) plan → p.ch ≡ c
found_channel c [] p is = absurd (cc)
found_channel c (q ∷ plan) p is = by (q.ch == c) refl is (found_channel c plan p)
  where
    by : (b : Bool) → (q.ch == c) ≡ b → Some p ≡ (if b then Some q else find (λ (r : PlanRow). r.ch == c) plan)
        → (Some p ≡ find (λ (r : PlanRow). r.ch == c) plan → p.ch ≡ c) → p.ch ≡ c
    by true e found rest = let mine : p ≡ q = cc in ap (λ (r : PlanRow). r.ch) mine ∙ grind (arith, nat_tests, e)
    by false e found rest = rest found

-- what was aired by the channel's row is what was aired by the plan
pub planned_airing : (c : ℕ) (plan : List PlanRow) (p : PlanRow) → Some p ≡ find (λ q. q.ch == c) plan
    → (n : ℕ) (set : AiredSet)
    → airing_of_rows (day_length p.rate) p.ch n set ≡ airing_of_rows (frames_of plan c) c n set
planned_airing c plan p is n set =
    ap₂ (λ frames d. airing_of_rows frames d n set) (ap frames_in is) (found_channel c plan p is)
