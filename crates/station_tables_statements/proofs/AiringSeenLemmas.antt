-- What was aired of a day, as a channel sees it and as the rows say it.
use Rattle.std.proofs.Common.{◌≡◌, ℕ, Bool, true, false, ◌&&◌, List, [], ◌∷◌, length, refl, ap, ap₂, ◌∙◌, arith}
use Rattle.std.proofs.Common.{true≢false}
use Rattle.std.specs.Prelude.{◌==◌, nat_lt, find, Option, Some, None, if◌then◌else◌}
use Rattle.std.specs.Option.{option_map}
use Rattle.std.proofs.lemmas.Bool.Decides.{nat_tests}
use Rattle.timecode.specs.Counting.{day_length}
use Rattle.channel_plan.specs.declared.plan.PlanRow.{PlanRow}
use Rattle.asrun_match.specs.declared.aired.AiredRow.{AiredRow}
use Rattle.asrun_match.specs.declared.day.DayAsRun.{DayAsRun}
use Rattle.asrun_match.specs.Aired.{Airing}
use Rattle.channel_view_model.specs.Tables.{of_channel}
use Rattle.channel_view_model.specs.Airings.{no_airing, airing_or, airing_at}
use Rattle.station_tables_records.specs.MadeDays.{Rise, frames_in, frames_of}
use Rattle.station_tables_records.specs.MadeAirings.{AiredSet, HaveNoHoles, batch_cmp, batches_at, airing_of_rows}
use Rattle.station_tables_records.specs.MadeAirings.{airings_made, is_airing}
use Rattle.station_tables_records.proofs.AiringLemmas.{airing_found}
use Rattle.station_tables_statements.specs.AiredCalls.{aired_of_day}

-- a row of a channel's day, whichever is asked first
find_either : (c n : ℕ) (as_ : List (ℕ × DayAsRun))
    → find (λ a. a.0 == c && a.1.day == n) as_ ≡ find (is_airing c n) as_
find_either c n [] = refl
find_either c n (a ∷ as_) =
    ap₂ (λ b rest. if b then Some a else rest) (turned (a.0 == c) (a.1.day == n)) (find_either c n as_)
  where
    turned : (x y : Bool) → (x && y) ≡ (y && x)
    turned true true = refl
    turned true false = refl
    turned false true = refl
    turned false false = refl

module _ (channels : List PlanRow) (p : PlanRow) (known : find (λ q. q.ch == p.ch) channels ≡ Some p) (set : AiredSet)
    (rise : Rise batch_cmp set.batches) (whole : HaveNoHoles set) (n : ℕ) where
  abbrev by_rows : Airing
  by_rows = airing_of_rows (day_length p.rate) p.ch n set

  nothing_there : (batches : List (List AiredRow)) → nat_lt 0 (length batches) ≡ false
      → no_airing p ≡ record { frames = day_length p.rate; batches = batches }
  nothing_there [] none = refl
  nothing_there (b ∷ batches) none = absurd (grind (arith, nat_tests, none))

  -- What was aired of the channel's day is what its rows say.
  pub airing_seen_is : airing_at p (of_channel p.ch (airings_made channels set)) n ≡ by_rows
  airing_seen_is =
      ap (λ o. airing_or p (option_map (λ (r : ℕ × DayAsRun). r.1) o))
      (find_either p.ch n (airings_made channels set) ∙ airing_found p.ch n channels set rise whole)
      ∙ by (nat_lt 0 (length (batches_at p.ch n set))) refl
    where
      by : (e : Bool) → nat_lt 0 (length (batches_at p.ch n set)) ≡ e
          → airing_or p
          (option_map (λ (r : ℕ × DayAsRun). r.1)
          (if e then Some (p.ch, record { day = n; aired = airing_of_rows (frames_of channels p.ch) p.ch n set })
          else None)) ≡ by_rows
      by true some = ap (λ frames. airing_of_rows frames p.ch n set) (ap frames_in known)
      by false none = nothing_there (batches_at p.ch n set) none

-- What is found of a day by its rows is what was aired of it, and where nothing is, nothing was.
module _ (p : PlanRow) (n : ℕ) (set : AiredSet) where
  pub airing_in_found : (aired : Airing) → Some aired ≡ aired_of_day (day_length p.rate) p.ch n set
      → aired ≡ airing_of_rows (day_length p.rate) p.ch n set
  airing_in_found aired is = by (length (batches_at p.ch n set) == 0) is
    where
      by : (e : Bool) → Some aired ≡ (if e then None else Some (airing_of_rows (day_length p.rate) p.ch n set))
          → aired ≡ airing_of_rows (day_length p.rate) p.ch n set
      by true is = absurd (cc)
      by false is = cc

  pub airing_in_none : None ≡ aired_of_day (day_length p.rate) p.ch n set
      → no_airing p ≡ airing_of_rows (day_length p.rate) p.ch n set
  airing_in_none is = by (batches_at p.ch n set) is
    where
      by : (batches : List (List AiredRow))
          → ◌≡◌ {A = Option Airing} None
          (if length batches == 0 then None else Some (record { frames = day_length p.rate; batches = batches }))
          → no_airing p ≡ record { frames = day_length p.rate; batches = batches }
      by [] is = refl
      by (b ∷ batches) is = at (length (b ∷ batches) == 0) (grind (arith, nat_tests)) is
        where
          at : (e : Bool) → e ≡ false
              → ◌≡◌ {A = Option Airing} None
              (if e then None else Some (record { frames = day_length p.rate; batches = b ∷ batches }))
              → no_airing p ≡ record { frames = day_length p.rate; batches = b ∷ batches }
          at true some is = absurd (true≢false some)
          at false some is = absurd (cc)
