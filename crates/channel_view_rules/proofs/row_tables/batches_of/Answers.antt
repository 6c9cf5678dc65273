-- `batches_of`: how many batches came for the day with this number.
use Rattle.std.proofs.Common.{◌≡◌, ℕ, List, [], ◌∷◌, true, false, length, refl, sym, ap, ◌∙◌}
use Rattle.std.specs.Prelude.{◌==◌, find, Some, if◌then◌else◌}
use Rattle.std.specs.Option.{option_map}
use Rattle.asrun_match.specs.declared.day.DayAsRun.{DayAsRun}
use Rattle.report_texts.specs.Days.{batches_in}
use Rattle.channel_view_model.specs.Tables.{rows_alone}
use Rattle.channel_view_rules.proofs.row_tables.batches_of.Goals as goal

-- what is found beside its channel
find_alone : (n : ℕ) (aired : List (ℕ × DayAsRun))
    → option_map (λ a. a.1) (find (λ a. a.1.day == n) aired) ≡ find (λ a. a.day == n) (rows_alone aired)
find_alone n [] = refl
find_alone n (a ∷ aired) =
    elim (a.1.day == n)
    as (λ b. option_map (λ (r : ℕ × DayAsRun). r.1) (if b then Some a else find (λ r. r.1.day == n) aired)
    ≡ (if b then Some a.1 else find (λ r. r.day == n) (rows_alone aired)))
    [ true ↦ refl | false ↦ find_alone n aired ]

pub returns-in-Some : goal.returns-in-Some
returns-in-Some c =
    let found = sym (ap (option_map (λ a. a.now)) c.in-Some.is) ∙ c.airing_of.ensures in
    ap length c.batches.ensures
    ∙ ap (λ o. batches_in (option_map (λ (r : ℕ × DayAsRun). r.1) o)) found
    ∙ ap batches_in (find_alone c.args.day c.args.aired.now)

pub returns-in-None : goal.returns-in-None
returns-in-None c =
    let found = sym (ap (option_map (λ a. a.now)) c.in-None.is) ∙ c.airing_of.ensures in
    ap (λ o. batches_in (option_map (λ (r : ℕ × DayAsRun). r.1) o)) found
    ∙ ap batches_in (find_alone c.args.day c.args.aired.now)
