-- What was aired of a day after a command: one batch more, where it is changed.
use Rattle.std.proofs.Common.{◌≡◌, ℕ, ◌+◌, Bool, true, false, not, List, length, refl, sym, ap, ◌∙◌, true≢false}
use Rattle.std.specs.Prelude.{◌==◌, nat_lt, Option, Some, None, Result, Ok, Err, if◌then◌else◌}
use Rattle.channel_plan.specs.declared.plan.PlanRow.{PlanRow}
use Rattle.channel_plan.specs.declared.refusal.Code.TheVariants.{BatchDiffers, BatchesFull, BatchOrder}
use Rattle.channel_plan.specs.declared.refusal.Refusal.{Refusal}
use Rattle.channel_plan.specs.Refusal.{refused}
use Rattle.playlist_core.specs.Day.{Day}
use Rattle.playlist_core.specs.declared.day.DayState.{DayState}
use Rattle.playlist_core.specs.declared.day.DayState.TheVariants.{NotThere, Open, Sealed}
use Rattle.asrun_match.specs.declared.aired.AiredRow.{AiredRow}
use Rattle.asrun_match.specs.declared.day.DayAsRun.{DayAsRun}
use Rattle.asrun_match.specs.Limits.{most_batches}
use Rattle.asrun_match.specs.Aired.{Airing, aired_picture, first_twice}
use Rattle.asrun_match.specs.Batches.{batch_in, day_after, day_with, has_batch, same_rows, unless_twice, with_batch}
use Rattle.asrun_match.specs.Rows.{go_on, rows_said}
use Rattle.channel_view_model.specs.declared.command.Change.TheVariants.{Airing as OnAiring}
use Rattle.channel_view_model.specs.declared.command.AiringCommand.{AiringCommand}
use Rattle.channel_view_model.specs.declared.command.AiringCommand.TheVariants as airings
use Rattle.channel_view_model.specs.Airings.{match_of}
use Rattle.channel_view_model.specs.Decide.{airing_decision, batch_change, batch_taken, written}

-- these batches with one more
abbrev pub HasMore : Airing → Airing → Type 0
HasMore day after = (more : List AiredRow) × (after ≡ with_batch more day)

module _ (plan : PlanRow) (n : ℕ) (day after : Airing) (new : has_batch n day ≡ false) where
  rows_added : (rows : List AiredRow) → day_with plan n rows day ≡ Ok after → after ≡ with_batch rows day
  rows_added rows h = known (has_batch n day) new h
    where
      room : (full : Bool) (next : Bool) (twice : Option ℕ)
          → (if full then Err (refused BatchesFull) else if not next then Err (refused BatchOrder)
          else unless_twice plan twice (with_batch rows day)) ≡ Ok after → after ≡ with_batch rows day
      room true next twice e = absurd (cc)
      room false false twice e = absurd (cc)
      room false true (Some p) e = absurd (cc)
      room false true None e = let same : with_batch rows day ≡ after = cc in sym same

      known : (b : Bool) → b ≡ false
          → (if b then (if same_rows (batch_in n day) rows then Ok day else Err (refused BatchDiffers))
          else if nat_lt most_batches n then Err (refused BatchesFull)
          else if not (n == length day.batches + 1) then Err (refused BatchOrder)
          else unless_twice plan (first_twice (aired_picture day) rows) (with_batch rows day)) ≡ Ok after
          → after ≡ with_batch rows day
      known true none e = absurd (true≢false none)
      known false none e =
          room (nat_lt most_batches n) (n == length day.batches + 1) (first_twice (aired_picture day) rows) e

  batch_added : (state : DayState) (text : List ℕ) → day_after state plan n text day ≡ Ok after → HasMore day after
  batch_added NotThere text h = absurd (cc)
  batch_added Open text h = absurd (cc)
  batch_added Sealed text h = by (rows_said plan.rate plan.start text) h
    where
      by : (r : Result (List AiredRow) Refusal) → go_on r (λ rows. day_with plan n rows day) ≡ Ok after
          → HasMore day after
      by (Err e) h = absurd (cc)
      by (Ok rows) h = (rows, rows_added rows h)

module _ (plan : PlanRow) (day : Day) (airing : Airing) (a : DayAsRun) where
  abbrev pub IsMore : Type 0
  IsMore = (a.day ≡ day.number) × HasMore airing a.aired

  pub more_left : (q : AiringCommand) → OnAiring a ≡ (airing_decision plan day airing q).1 → IsMore
  unfolding airing_decision
  more_left (airings.TakeBatch n text) made = by (day_after day.state plan n text airing) refl made
    where
      at : (after : Airing) → day_after day.state plan n text airing ≡ Ok after → (known : Bool)
          → has_batch n airing ≡ known → OnAiring a ≡ batch_change known day.number after → IsMore
      at after was true there made = absurd (cc)
      at after was false there made =
          let same : a ≡ record { day = day.number; aired = after } = cc in
          let added = batch_added plan n airing after there day.state text was in
          (ap (λ (x : DayAsRun). x.day) same, (added.0, ap (λ (x : DayAsRun). x.aired) same ∙ added.1))

      by : (r : Result Airing Refusal) → day_after day.state plan n text airing ≡ r
          → OnAiring a ≡ (batch_taken day.number n (has_batch n airing) r).1 → IsMore
      by (Err e) was made = absurd (cc)
      by (Ok after) was made = at after was (has_batch n airing) refl made
  more_left airings.WriteMatch made = by (match_of plan day airing) made
    where
      by : (r : Result (List ℕ) Refusal) → OnAiring a ≡ (written r).1 → IsMore
      by (Ok text) made = absurd (cc)
      by (Err e) made = absurd (cc)
