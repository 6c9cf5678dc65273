-- A command on what was aired of a day that is sent again: a batch that is there is taken no second time.
use Rattle.std.proofs.Common.{◌≡◌, ◌⊎◌, ℕ, ◌+◌, ◌-◌, List, [], ◌∷◌, ◌++◌, length, get_or, Bool, true, false, refl, sym}
use Rattle.std.proofs.Common.{◌∙◌, ap, subst, inl, inr, arith}
use Rattle.std.specs.Prelude.{◌==◌, nat_lt, Option, Some, None, Result, Ok, Err, not, if◌then◌else◌}
use Rattle.std.proofs.lemmas.Bool.Decides.{nat_tests}
use Rattle.std.proofs.lemmas.List.{length-append}
use Rattle.channel_plan.specs.declared.plan.PlanRow.{PlanRow}
use Rattle.channel_plan.specs.declared.refusal.Code.TheVariants.{BatchDiffers, BatchesFull, BatchOrder}
use Rattle.channel_plan.specs.declared.refusal.Refusal.{Refusal}
use Rattle.channel_plan.specs.Refusal.{refused}
use Rattle.playlist_core.specs.declared.day.DayState.{DayState}
use Rattle.playlist_core.specs.declared.day.DayState.TheVariants.{NotThere, Open, Sealed}
use Rattle.playlist_core.specs.Day.{Day}
use Rattle.asrun_match.specs.declared.aired.AiredRow.{AiredRow}
use Rattle.asrun_match.specs.Limits.{most_batches}
use Rattle.asrun_match.specs.Aired.{Airing, aired_picture, first_twice}
use Rattle.asrun_match.specs.Rows.{go_on, rows_said}
use Rattle.asrun_match.specs.Batches.{same_rows, has_batch, batch_in, with_batch, unless_twice, day_with, day_after}
use Rattle.asrun_match.specs.Batches.{if_sealed}
use Rattle.channel_view_model.specs.declared.command.Change.TheVariants.{Nothing, Airing as OnAiring}
use Rattle.channel_view_model.specs.declared.command.AiringCommand.{AiringCommand}
use Rattle.channel_view_model.specs.declared.command.AiringCommand.TheVariants as airings
use Rattle.channel_view_model.specs.Airings.{match_of}
use Rattle.channel_view_model.specs.Decide.{Decided, written, batch_taken, airing_decision}
use Rattle.vault_core.proofs.AgainLemmas.{passes, bytes_same, itself}

-- rows are the same as themselves
same_again : (rows : List AiredRow) → same_rows rows rows ≡ true
same_again [] = refl
same_again (r ∷ rows) =
    let place = itself r.pos in
    let long = itself r.frames in
    let reel = bytes_same r.src in
    let first = itself r.src_first in
    let rest = same_again rows in
    grind (arith, place, long, reel, first, rest)

last_of : (batches : List (List AiredRow)) (rows : List AiredRow)
    → get_or (batches ++ rows ∷ []) (length batches) [] ≡ rows
last_of [] rows = refl
last_of (b ∷ batches) rows = last_of batches rows

one_longer : (batches : List (List AiredRow)) (rows : List AiredRow)
    → length (batches ++ rows ∷ []) ≡ length batches + 1
one_longer batches rows = length-append batches (rows ∷ [])

-- a batch that wasn't there is there, with its rows
module _ (plan : PlanRow) (n : ℕ) (rows : List AiredRow) (airing after : Airing) (new : has_batch n airing ≡ false)
    (made : day_with plan n rows airing ≡ Ok after) where
  not_known : (if nat_lt most_batches n then Err (refused BatchesFull)
      else if not (n == length airing.batches + 1) then Err (refused BatchOrder)
      else unless_twice plan (first_twice (aired_picture airing) rows) (with_batch rows airing)) ≡ Ok after
  not_known =
      sym
      (ap (λ b. if b then (if same_rows (batch_in n airing) rows then Ok airing else Err (refused BatchDiffers)) else
      if nat_lt most_batches n then Err (refused BatchesFull)
      else if not (n == length airing.batches + 1) then Err (refused BatchOrder)
      else unless_twice plan (first_twice (aired_picture airing) rows) (with_batch rows airing)) new) ∙ made

  few : (nat_lt most_batches n ≡ false)
      × ((if not (n == length airing.batches + 1) then Err (refused BatchOrder)
      else unless_twice plan (first_twice (aired_picture airing) rows) (with_batch rows airing)) ≡ Ok after)
  few = passes (nat_lt most_batches n) (refused BatchesFull) _ after not_known

  next : (not (n == length airing.batches + 1) ≡ false)
      × (unless_twice plan (first_twice (aired_picture airing) rows) (with_batch rows airing) ≡ Ok after)
  next = passes (not (n == length airing.batches + 1)) (refused BatchOrder) _ after few.1

  after_is : with_batch rows airing ≡ after
  after_is = by (first_twice (aired_picture airing) rows) next.1
    where
      by : (o : Option ℕ) → unless_twice plan o (with_batch rows airing) ≡ Ok after → with_batch rows airing ≡ after
      by None h = cc
      by (Some p) h = absurd (cc)

  number_is : n ≡ length airing.batches + 1
  number_is = let h = next.0 in grind (arith, nat_tests, h)

  known_then : has_batch n after ≡ true
  known_then =
      subst (λ (a : Airing). has_batch n a ≡ true) after_is
      (let long = one_longer airing.batches rows in let is = number_is in grind (arith, nat_tests, long, is))

  rows_then : batch_in n after ≡ rows
  rows_then =
      subst (λ (a : Airing). batch_in n a ≡ rows) after_is
      (let is : n - 1 ≡ length airing.batches = omega (arith, number_is) in
      ap (λ k. get_or (airing.batches ++ rows ∷ []) k []) is ∙ last_of airing.batches rows)

  taken_again : day_with plan n rows after ≡ Ok after
  taken_again =
      ap (λ b. if b then (if same_rows (batch_in n after) rows then Ok after else Err (refused BatchDiffers)) else
      if nat_lt most_batches n then Err (refused BatchesFull)
      else if not (n == length after.batches + 1) then Err (refused BatchOrder)
      else unless_twice plan (first_twice (aired_picture after) rows) (with_batch rows after)) known_then
      ∙ ap (λ b. if b then Ok after else Err (refused BatchDiffers))
      (ap (λ xs. same_rows xs rows) rows_then ∙ same_again rows)

-- A batch changed what was aired, and is answered as before once it is there.
pub record TakenOnce (plan : PlanRow) (day : Day) (q : AiringCommand) (d : Decided) : Type 0 where
  pub after : Airing
  pub change : d.1 ≡ OnAiring (record { day = day.number; aired = after })
  pub again : airing_decision plan day after q ≡ (d.0, Nothing)

pub airing_again : (plan : PlanRow) (day : Day) (airing : Airing) (q : AiringCommand)
    → ((airing_decision plan day airing q).1 ≡ Nothing) ⊎ TakenOnce plan day q (airing_decision plan day airing q)
unfolding airing_decision
airing_again plan day airing airings.WriteMatch = by (match_of plan day airing)
  where
    by : (r : Result (List ℕ) Refusal) → ((written r).1 ≡ Nothing) ⊎ TakenOnce plan day airings.WriteMatch (written r)
    by (Err e) = inl refl
    by (Ok text) = inl refl
airing_again plan day airing (airings.TakeBatch n text) =
    by (has_batch n airing) refl (day_after day.state plan n text airing) refl
  where
    reads : Airing → (s : DayState) → Result (List AiredRow) Refusal → Result Airing Refusal
    reads a s said = if_sealed s (go_on said (λ rows. day_with plan n rows a))

    again : (after : Airing) → has_batch n airing ≡ false → (s : DayState) (said : Result (List AiredRow) Refusal)
        → reads airing s said ≡ Ok after → (has_batch n after ≡ true) × (reads after s said ≡ Ok after)
    again after new NotThere said h = absurd (cc)
    again after new Open said h = absurd (cc)
    again after new Sealed (Err e) h = absurd (cc)
    again after new Sealed (Ok rows) h =
        (known_then plan n rows airing after new h, taken_again plan n rows airing after new h)

    by : (known : Bool) → has_batch n airing ≡ known → (r : Result Airing Refusal)
        → day_after day.state plan n text airing ≡ r
        → ((batch_taken day.number n known r).1 ≡ Nothing)
        ⊎ TakenOnce plan day (airings.TakeBatch n text) (batch_taken day.number n known r)
    by known is (Err e) made = inl refl
    by true is (Ok after) made = inl refl
    by false is (Ok after) made =
        let both = again after is day.state (rows_said plan.rate plan.start text) made in
        inr (record {
          after = after;
          change = refl;
          again =
              ap (λ b. batch_taken day.number n b (day_after day.state plan n text after)) both.0
              ∙ ap (batch_taken day.number n true) both.1;
        })
