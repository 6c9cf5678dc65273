-- What was aired of days keeps its rules.
use Rattle.std.proofs.Common.{◌≡◌, ℕ, ◌<◌, List, [], ◌∷◌, Bool, true, false, ◌&&◌, ◌||◌, refl, sym, ◌∙◌, ap, ap₂, subst}
use Rattle.std.proofs.Common.{arith}
use Rattle.std.specs.Prelude.{◌==◌, nat_lt, nat_le, find, map, filter, length, Option, Some, None, Result, Ok, Err}
use Rattle.std.specs.Prelude.{if◌then◌else◌}
use Rattle.std.specs.List.{AllByRecursion}
use Rattle.std.proofs.lemmas.Bool.Decides.{nat_tests}
use Rattle.std.proofs.lemmas.Bool.{false≢true}
use Rattle.std.proofs.lemmas.List.Sorted.{IsPermutation-refl}
use Rattle.timecode.specs.Counting.{day_length}
use Rattle.channel_plan.specs.declared.plan.PlanRow.{PlanRow}
use Rattle.channel_plan.specs.declared.refusal.Refusal.{Refusal}
use Rattle.channel_plan.specs.declared.refusal.Code.TheVariants.{DaySealed}
use Rattle.channel_plan.specs.Refusal.{refused}
use Rattle.playlist_core.specs.declared.item.Item.{Item}
use Rattle.playlist_core.specs.declared.item.NewItem.{NewItem}
use Rattle.vault_core.specs.Questions.{Questions, replaced}
use Rattle.playlist_core.specs.declared.day.DayState.{DayState}
use Rattle.playlist_core.specs.declared.day.DayState.TheVariants.{NotThere, Open, Sealed}
use Rattle.playlist_core.specs.Source.{SourcesSeen}
use Rattle.playlist_core.specs.Day.{Day, if_open, item_for, day_sealed, if_not_there, number_of}
use Rattle.playlist_edl.specs.Importing.{import_of}
use Rattle.asrun_match.specs.declared.day.DayAsRun.{DayAsRun}
use Rattle.asrun_match.specs.Aired.{Airing, KeepsAiringRules}
use Rattle.asrun_match.specs.Batches.{day_after, has_batch}
use Rattle.asrun_match.proofs.KeptLemmas.{IsKept, batch_kept}
use Rattle.channel_view_model.specs.declared.command.Change.{Change}
use Rattle.channel_view_model.specs.declared.command.Change.TheVariants.{Nothing, Vault as OnVault, Day as OnDay}
use Rattle.channel_view_model.specs.declared.command.Change.TheVariants.{Airing as OnAiring}
use Rattle.channel_view_model.specs.declared.command.Reply.{Reply}
use Rattle.channel_view_model.specs.declared.day_command.DayCommand.{DayCommand}
use Rattle.channel_view_model.specs.declared.day_command.DayCommand.TheVariants as days
use Rattle.channel_view_model.specs.declared.command.AiringCommand.{AiringCommand}
use Rattle.channel_view_model.specs.declared.command.AiringCommand.TheVariants as airings
use Rattle.channel_view_model.specs.Tables.{Table, rows_of, of_channel}
use Rattle.channel_view_model.specs.Days.{no_day, day_or, day_at, frame_named, item_at, item_said, item_of_said}
use Rattle.channel_view_model.specs.Airings.{no_airing, airing_or, airing_at, match_of}
use Rattle.channel_view_model.specs.Decide.{answered, written, item_added, day_decision, airing_decision, batch_change}
use Rattle.channel_view_model.specs.Decide.{batch_taken, table_of_day, revision_change, revision_made}
use Rattle.channel_view_model.specs.declared.revision.ItemRefusal.{ItemRefusal}
use Rattle.channel_view_model.specs.declared.revision.SaidItem.{SaidItem}
use Rattle.channel_view_model.specs.Revision.{SaidRevision, says_nothing}
use Rattle.channel_view_model.specs.Revising.{taken_out, of_kind, kind_said, put_in, day_without, day_with, and_then}
use Rattle.channel_view_model.specs.Revising.{at_place, in_turn, day_revised}
use Rattle.playlist_edl.specs.Exporting.{exported}
use Rattle.channel_view_model.specs.Rules.{are_days_of, is_sealed, numbers_rise, has_sealed, is_airing_of}
use Rattle.channel_view_model.specs.Rules.{are_airings_of}
use Rattle.channel_view_model.proofs.TableLemmas.{picked_is}

-- no day has a number that the days have passed
pub none_past : (n last : ℕ) (days : List Day) → nat_le n last ≡ true → numbers_rise last days ≡ true
    → has_sealed n days ≡ false
none_past n last [] le rise = refl
none_past n last (d ∷ days) le rise =
    let other : (d.number == n) ≡ false = grind (arith, nat_tests, le, rise) in
    let rest = none_past n d.number days (grind (arith, nat_tests, le, rise)) (grind (arith, rise)) in
    grind (arith, other, rest)

-- one day of a number among those of a channel
module _ (plan : PlanRow) (seen : SourcesSeen) where
  pub numbers_of : (last : ℕ) (days : List Day) → are_days_of plan seen last days ≡ true → numbers_rise last days ≡ true
  numbers_of last [] are = refl
  numbers_of last (d ∷ days) are = grind (arith, are, numbers_of d.number days)

  -- whether it is sealed is told by the one that is found
  pub sealed_found : (n last : ℕ) (days : List Day) → are_days_of plan seen last days ≡ true
      → has_sealed n days ≡ is_sealed (day_or (no_day plan n) (find (λ d. d.number == n) days)).state
  sealed_found n last [] are = refl
  sealed_found n last (d ∷ days) are = by (d.number == n) refl (sealed_found n d.number days (grind (arith, are)))
    where
      by : (b : Bool) → (d.number == n) ≡ b
          → has_sealed n days ≡ is_sealed (day_or (no_day plan n) (find (λ d. d.number == n) days)).state
          → ((b && is_sealed d.state) || has_sealed n days)
          ≡ is_sealed (day_or (no_day plan n) (if b then Some d else find (λ d. d.number == n) days)).state
      by false other rest = rest
      by true here rest =
          let none =
          none_past n d.number days (grind (arith, nat_tests, here)) (numbers_of d.number days (grind (arith, are)))
          in
          grind (arith, none)

  pub sealed_at : (c n : ℕ) (t : Table Day) → are_days_of plan seen 0 (rows_of c t) ≡ true
      → has_sealed n (rows_of c t) ≡ is_sealed (day_at plan (of_channel c t) n).state
  sealed_at c n t are =
      sealed_found n 0 (rows_of c t) are
      ∙ ap (λ (days : Questions Day). is_sealed (day_at plan days n).state)
      (sym (picked_is (λ r. r.0 == c) (λ r. r.1) t))

-- a sealed day stays, whatever is done to one with another number
pub sealed-replaced : (n : ℕ) (day : Day) (days : List Day) → (day.number == n) ≡ false → has_sealed n days ≡ true
    → has_sealed n (replaced (λ d. d.number) day days) ≡ true
sealed-replaced n day [] other has = absurd (false≢true has)
sealed-replaced n day (d ∷ days) other has = by (d.number == day.number) refl (sealed-replaced n day days other)
  where
    by : (b : Bool) → (d.number == day.number) ≡ b
        → (has_sealed n days ≡ true → has_sealed n (replaced (λ d. d.number) day days) ≡ true)
        → has_sealed n
        (if b then day ∷ days else if nat_lt day.number d.number then day ∷ d ∷ days else d
        ∷ replaced (λ d. d.number) day days) ≡ true
    by true here rest =
        let not_it : (d.number == n) ≡ false = grind (arith, nat_tests, here, other) in
        grind (arith, other, not_it, has)
    by false here rest = before (nat_lt day.number d.number)
      where
        before : (b : Bool) → has_sealed n (if b then day ∷ d ∷ days else d ∷ replaced (λ d. d.number) day days) ≡ true
        before true = grind (arith, other, has)
        before false = among (d.number == n && is_sealed d.state) refl
          where
            among : (b : Bool) → (d.number == n && is_sealed d.state) ≡ b
                → (b || has_sealed n (replaced (λ d. d.number) day days)) ≡ true
            among true is = refl
            among false is = rest (grind (arith, is, has))

module _ (plan : PlanRow) where
  -- more days that are sealed
  pub airings-still : (days later : List Day) → ((n : ℕ) → has_sealed n days ≡ true → has_sealed n later ≡ true)
      → (last : ℕ) (more : List DayAsRun) → are_airings_of plan days last more ≡ true
      → are_airings_of plan later last more ≡ true
  airings-still days later still last [] are = refl
  airings-still days later still last (a ∷ more) are =
      let here = still a.day (grind (arith, are)) in
      let rest = airings-still days later still a.day more (grind (arith, are)) in
      grind (arith, are, here, rest)

  -- what was aired with this
  pub airings-replaced : (days : List Day) (last : ℕ) (airing : DayAsRun) (more : List DayAsRun)
      → nat_lt last airing.day ≡ true → is_airing_of plan days airing ≡ true → are_airings_of plan days last more ≡ true
      → are_airings_of plan days last (replaced (λ a. a.day) airing more) ≡ true
  airings-replaced days last airing [] above is are = grind (arith, above, is)
  airings-replaced days last airing (a ∷ more) above is are =
      by (a.day == airing.day) refl (λ past. airings-replaced days a.day airing more past is (grind (arith, are)))
    where
      by : (b : Bool) → (a.day == airing.day) ≡ b
          → (nat_lt a.day airing.day ≡ true → are_airings_of plan days a.day (replaced (λ a. a.day) airing more) ≡ true)
          → are_airings_of plan days last
          (if b then airing ∷ more else if nat_lt airing.day a.day then airing ∷ a ∷ more else a
          ∷ replaced (λ a. a.day) airing more) ≡ true
      by true same later =
          let number : a.day ≡ airing.day = grind (arith, nat_tests, same) in
          let rest : are_airings_of plan days airing.day more ≡ true =
          subst (λ n. are_airings_of plan days n more ≡ true) number (grind (arith, are)) in
          grind (arith, above, is, rest)
      by false other later = before (nat_lt airing.day a.day) refl
        where
          before : (b : Bool) → nat_lt airing.day a.day ≡ b
              → are_airings_of plan days last (if b then airing ∷ a ∷ more else a ∷ replaced (λ a. a.day) airing more)
              ≡ true
          before true lt = grind (arith, above, is, are, lt)
          before false lt =
              let past : nat_lt a.day airing.day ≡ true = grind (arith, nat_tests, other, lt) in
              let rest = later past in
              grind (arith, are, rest)

  -- nothing aired keeps the rules
  nothing_kept : KeepsAiringRules (no_airing plan)
  nothing_kept =
      record { few = omega arith; fields = refl; order = []; same = IsPermutation-refl []; apart = omega arith }

  -- What was aired of a day: by its rules, and of the frames of a day at the channel's rate.
  pub record IsHeldAiring (airing : Airing) : Type 0 where
    pub rules : KeepsAiringRules airing
    pub frames : airing.frames ≡ day_length plan.rate

  one_held : (days : List Day) (n last : ℕ) (more : List DayAsRun) (a : DayAsRun)
      → AllByRecursion (λ x. KeepsAiringRules x.aired) more → are_airings_of plan days last more ≡ true
      → find (λ x. x.day == n) more ≡ Some a → IsHeldAiring a.aired
  one_held days n last [] a each are is = absurd (cc)
  one_held days n last (x ∷ xs) a each are is =
      by (x.day == n) refl (one_held days n x.day xs a each.1 (grind (arith, are)))
    where
      by : (b : Bool) → (x.day == n) ≡ b → (find (λ x. x.day == n) xs ≡ Some a → IsHeldAiring a.aired)
          → IsHeldAiring a.aired
      by true here rest =
          let same : x ≡ a = grind (arith, here, is) in
          subst (λ (y : DayAsRun). IsHeldAiring y.aired) same
          (record { rules = each.0; frames = grind (arith, nat_tests, are) })
      by false other rest = rest (grind (arith, other, is))

  each-rows_of : (c : ℕ) (t : Table DayAsRun) → AllByRecursion (λ r. KeepsAiringRules r.1.aired) t
      → AllByRecursion (λ x. KeepsAiringRules x.aired) (rows_of c t)
  each-rows_of c [] each = tt
  each-rows_of c (r ∷ rs) each =
      elim (r.0 == c)
      as (λ b. AllByRecursion (λ x. KeepsAiringRules x.aired)
      (map (λ s. s.1) (if b then r ∷ filter (λ s. s.0 == c) rs else filter (λ s. s.0 == c) rs))) [
        | true ↦ (each.0, each-rows_of c rs each.1)
        | false ↦ each-rows_of c rs each.1
      ]

  -- what was aired of the day that a command is about
  pub airing_held : (days : List Day) (c n : ℕ) (t : Table DayAsRun)
      → AllByRecursion (λ r. KeepsAiringRules r.1.aired) t → are_airings_of plan days 0 (rows_of c t) ≡ true
      → IsHeldAiring (airing_at plan (of_channel c t) n)
  airing_held days c n t each are =
      subst (λ (aired : Questions DayAsRun). IsHeldAiring (airing_at plan aired n))
      (sym (picked_is (λ r. r.0 == c) (λ r. r.1) t))
      (by (find (λ a. a.day == n) (rows_of c t)) refl)
    where
      by : (o : Option DayAsRun) → find (λ a. a.day == n) (rows_of c t) ≡ o → IsHeldAiring (airing_or plan o)
      by None there = record { rules = nothing_kept; frames = refl }
      by (Some a) there = one_held days n 0 (rows_of c t) a (each-rows_of c t each) are there

-- a sealed day is changed by no command
module _ (plan : PlanRow) (day : Day) (seen : SourcesSeen) (sealed : day.state ≡ Sealed) where
  refused_all : {X : Type 0} (done : X → Reply × Change) (s : DayState) (r : Result X Refusal) → s ≡ Sealed
      → (answered done (if_open s r)).1 ≡ Nothing
  refused_all done NotThere r is = refl
  refused_all done Open r is = absurd (cc)
  refused_all done Sealed r is = refl

  opened_not : (done : ℕ → Reply × Change) (s : DayState) (r : Result ℕ Refusal) → s ≡ Sealed
      → (answered done (if_not_there s r)).1 ≡ Nothing
  opened_not done NotThere r is = absurd (cc)
  opened_not done Open r is = refl
  opened_not done Sealed r is = refl

  said_not : (frames mix : ℕ) (source : List ℕ) (at first : Result ℕ Refusal)
      → (item_added day (item_of_said day plan seen (item_at plan frames mix source at first))).1 ≡ Nothing
  unfolding item_for
  said_not frames mix source (Err e) first = refl
  said_not frames mix source (Ok at) (Err e) = refl
  said_not frames mix source (Ok at) (Ok first) = refused_all _ day.state _ sealed

  text_not : (r : Result (List ℕ) Refusal) → (written r).1 ≡ Nothing
  text_not (Ok text) = refl
  text_not (Err e) = refl

  -- each item of a revision is refused
  out_not : (n : ℕ) → (e : Refusal) × (day_without n day ≡ Err e)
  out_not n = by day.state (find (λ i. i.n == n) day.items) sealed
    where
      by : (s : DayState) (o : Option Item) → s ≡ Sealed
          → (e : Refusal) × (taken_out n day (if_open s (number_of o)) ≡ Err e)
      by NotThere o is = absurd (cc)
      by Open o is = absurd (cc)
      by Sealed o is = (refused DaySealed, refl)

  in_not : (said : SaidItem) → (e : Refusal) × (day_with plan seen said day ≡ Err e)
  unfolding item_for
  in_not said = by (item_said plan said.at said.frames said.source_in said.mix said.source)
    where
      of_state : (new : NewItem) (s : DayState) (r : Result Item Refusal) → s ≡ Sealed
          → (e : Refusal) × (put_in day (if_open s r) ≡ Err e)
      of_state new NotThere r is = absurd (cc)
      of_state new Open r is = absurd (cc)
      of_state new Sealed r is = (refused DaySealed, refl)

      by : (r : Result NewItem Refusal)
          → (e : Refusal) × (put_in day (item_of_said day plan seen (of_kind (kind_said said.wipe said.mix) r)) ≡ Err e)
      by (Err e) = (e, refl)
      by (Ok new) = of_state new day.state _ sealed

  revision_not : (said : SaidRevision) (ns : List ℕ) (is : List SaidItem) → said.remove ≡ ns → said.add ≡ is
      → (revision_made said day (and_then (in_turn day_without 1 ns day) (in_turn (day_with plan seen) 1 is))).1
      ≡ Nothing
  revision_not said [] [] no_number no_item =
      ap₂ (λ (ns : List ℕ) (is : List SaidItem). (revision_change (length ns == 0 && length is == 0) day day)) no_number
      no_item
  revision_not said [] (i ∷ is) no_number items =
      let one = in_not i in
      ap (λ r. (revision_made said day (and_then (at_place 1 r) (in_turn (day_with plan seen) 2 is))).1) one.1
  revision_not said (n ∷ ns) is numbers items =
      let one = out_not n in
      ap (λ r.
      (revision_made said day
      (and_then (and_then (at_place 1 r) (in_turn day_without 2 ns)) (in_turn (day_with plan seen) 1 is))).1) one.1

  pub sealed_stays : (q : DayCommand) → (day_decision plan day seen q).1 ≡ Nothing
  unfolding day_decision import_of day_sealed day_revised
  sealed_stays days.Open = opened_not _ day.state (Ok day.number) sealed
  sealed_stays (days.AddItem at frames source_in mix source) =
      said_not frames mix source (frame_named plan at) (frame_named plan source_in)
  sealed_stays (days.RemoveItem n) = refused_all _ day.state _ sealed
  sealed_stays (days.Revise said) = revision_not said said.remove said.add refl refl
  sealed_stays (days.Import list ignore) = refused_all _ day.state _ sealed
  sealed_stays days.Seal = refused_all _ day.state _ sealed
  sealed_stays days.WritePlan = text_not (table_of_day plan day)
  sealed_stays days.ExportList = text_not (exported day plan seen)

-- what a command leaves of what was aired of days of a channel with these days
abbrev pub LeavesAiring : PlanRow → List Day → Change → Type 0
LeavesAiring plan days Nothing = Unit {0}
LeavesAiring plan days (OnVault put change) = ⊥
LeavesAiring plan days (OnDay change) = ⊥
LeavesAiring plan days (OnAiring a) = KeepsAiringRules a.aired × (is_airing_of plan days a ≡ true) × (0 < a.day)

module _ (plan : PlanRow) (days : List Day) (day : Day) (airing : Airing) (held : IsHeldAiring plan airing)
    (some : 0 < day.number) (there : day.state ≡ Sealed → has_sealed day.number days ≡ true) where
  left_by : (known : Bool) (after : Airing) → IsKept day.state airing after
      → LeavesAiring plan days (batch_change known day.number after)
  left_by true after kept = tt
  left_by false after kept =
      let sealed = there kept.sealed in
      let frames : after.frames ≡ day_length plan.rate = kept.frames ∙ held.frames in
      let one = kept.some in
      (kept.rules, grind (arith, nat_tests, sealed, frames, one), some)

  pub airing_leaves : (q : AiringCommand) → LeavesAiring plan days (airing_decision plan day airing q).1
  unfolding airing_decision
  airing_leaves (airings.TakeBatch n rows) = by (day_after day.state plan n rows airing) refl
    where
      by : (r : Result Airing Refusal) → day_after day.state plan n rows airing ≡ r
          → LeavesAiring plan days (batch_taken day.number n (has_batch n airing) r).1
      by (Err e) was = tt
      by (Ok after) was =
          left_by (has_batch n airing) after (batch_kept plan n airing after held.frames held.rules day.state rows was)
  airing_leaves airings.WriteMatch = text (match_of plan day airing)
    where
      text : (r : Result (List ℕ) Refusal) → LeavesAiring plan days (written r).1
      text (Ok t) = tt
      text (Err e) = tt
