-- A request keeps the integrity rules.
use Rattle.std.proofs.Common.{◌≡◌, ◌≢◌, ℕ, List, [], ◌∷◌, Bool, true, false, inl, inr, ◌⊎◌, refl, sym, ap, ◌∙◌, ◌<◌}
use Rattle.std.proofs.Common.{subst, arith}
use Rattle.std.specs.Prelude.{◌==◌, nat_lt, find, Option, Some, None, if◌then◌else◌}
use Rattle.std.specs.List.{list_all}
use Rattle.std.proofs.lemmas.Bool.Decides.{nat_tests}
use Rattle.channel_plan.specs.declared.plan.PlanRow.{PlanRow}
use Rattle.vault_core.specs.declared.tape.Tape.{Tape}
use Rattle.channel_view_model.specs.declared.command.Command.{Command}
use Rattle.channel_view_model.specs.declared.command.Command.TheVariants as commands
use Rattle.channel_view_model.specs.declared.command.Change.{Change}
use Rattle.channel_view_model.specs.declared.command.Change.TheVariants.{Nothing, Vault as OnVault, Day as OnDay}
use Rattle.channel_view_model.specs.declared.command.Change.TheVariants.{Airing as OnAiring}
use Rattle.channel_view_model.specs.declared.command.VaultChange.{VaultChange}
use Rattle.channel_view_model.specs.declared.command.VaultChange.TheVariants.{Tape as TapeRow, Clip as ClipRow}
use Rattle.channel_view_model.specs.declared.command.VaultChange.TheVariants.{Offer as OfferRow}
use Rattle.channel_plan.specs.Plan.{is_plan_row, is_plan_in_order}
use Rattle.vault_core.specs.declared.command.Put.{Put}
use Rattle.vault_core.specs.Own.{own_seen}
use Rattle.vault_core.specs.declared.clip.Clip.{Clip}
use Rattle.vault_core.specs.declared.offer.Offer.{Offer}
use Rattle.channel_view_model.specs.Tables.{Table, replace_row, rows_of, of_channel, is_in_order}
use Rattle.timecode.specs.Counting.{day_length}
use Rattle.channel_plan.specs.declared.refusal.Code.TheVariants.{NoDay}
use Rattle.channel_plan.specs.Refusal.{refused}
use Rattle.playlist_core.specs.Day.{Day, KeepsDayRules}
use Rattle.channel_view_model.specs.declared.command.Reply.TheVariants as replies
use Rattle.channel_view_model.specs.declared.day_command.DayCommand.{DayCommand}
use Rattle.channel_view_model.specs.declared.day_command.DayCommand.TheVariants as days
use Rattle.playlist_core.specs.Difference.{ChangedDay, changed_day}
use Rattle.channel_view_model.specs.Days.{is_day_number, day_at}
use Rattle.channel_view_model.specs.Seen.{sources_seen}
use Rattle.channel_view_model.specs.Decide.{numbers_in_range, day_decision, airing_decision, decision, vault_decision}
use Rattle.channel_view_model.specs.Decide.{own_after}
use Rattle.channel_view_model.specs.Centre.{Centre, Request, plan_of, own_of, own_changed, changed, after_at, after}
use Rattle.channel_view_model.specs.Centre.{seen_by, view_at, IsChangeOf}
use Rattle.vault_core.specs.Rules.{KeepsOwnRules}
use Rattle.asrun_match.specs.declared.day.DayAsRun.{DayAsRun}
use Rattle.asrun_match.specs.Aired.{KeepsAiringRules}
use Rattle.channel_view_model.specs.declared.command.AiringCommand.{AiringCommand}
use Rattle.channel_view_model.specs.Airings.{airing_at}
use Rattle.playlist_core.specs.declared.day.DayState.{DayState}
use Rattle.playlist_core.specs.declared.day.DayState.TheVariants.{NotThere, Open, Sealed}
use Rattle.std.proofs.lemmas.Bool.{false≢true}
use Rattle.channel_view_model.specs.Rules.{is_planned, is_table_of, are_tables, is_there, source_holds, is_day_of}
use Rattle.channel_view_model.specs.Rules.{are_days_of, has_days, is_sealed, has_sealed, is_airing_of, are_airings_of}
use Rattle.channel_view_model.specs.Rules.{has_airings, KeepsAirings, KeepsRules}
use Rattle.channel_view_model.proofs.AiringRuleLemmas.{LeavesAiring, airing_held, airing_leaves, airings-still}
use Rattle.channel_view_model.proofs.AiringRuleLemmas.{airings-replaced, sealed_at, sealed-replaced, sealed_stays}
use Rattle.channel_view_model.proofs.BatchLemmas.{HasMore, more_left}
use Rattle.channel_view_model.proofs.TableLemmas.{rows_of-replace_same, rows_of-replace_other, each-replace}
use Rattle.channel_view_model.proofs.ShownLemmas.{days-changed_own}
use Rattle.channel_view_model.proofs.DayRuleLemmas.{IsHeld, LeavesDay, leaves, IsFromDay, comes_from}
use Rattle.channel_view_model.proofs.DayTableLemmas.{day_held, days-replaced, table-replace}
use Rattle.channel_view_model.proofs.StepLemmas.{AreInOrder, seen_is, own_of-changed_own, own_of-changed_other}
use Rattle.channel_view_model.proofs.WalkLemmas.{found_planned}
use Rattle.vault_core.proofs.RuleLemmas.{no_tape_kept}
use Rattle.channel_view_model.specs.Puts.{RowMayBePut}
use Rattle.channel_view_model.proofs.OwnRuleLemmas.{own_changed_so, own_stays_so, own_kept, decision_kept}

pub in_order : (rows : Centre) → KeepsRules rows → AreInOrder rows
in_order rows rules =
    let h : are_tables rows ≡ true = rules.tables in
    (grind (arith, h), grind (arith, h), grind (arith, h))

pub days_in_order : (rows : Centre) → KeepsRules rows → is_in_order rows.days ≡ true
days_in_order rows rules = let h = rules.days.table in grind (arith, h)

pub aired_in_order : (rows : Centre) → KeepsRules rows → is_in_order rows.aired ≡ true
aired_in_order rows rules = let h = rules.aired.table in grind (arith, h)

pub some_same : (o : Option PlanRow) (p q : PlanRow) → o ≡ Some p → o ≡ Some q → p ≡ q
some_same o p q e f = cc

pub same_or_not : (b c : ℕ) → (b ≡ c) ⊎ (b ≢ c)
same_or_not b c = by (b == c) refl
  where
    by : (t : Bool) → (b == c) ≡ t → (b ≡ c) ⊎ (b ≢ c)
    by true e = inl (grind (arith, nat_tests, e))
    by false e = inr (λ same. grind (arith, nat_tests, e, same))

-- each table is one of the plan after a change
tables-changed : (rows : Centre) (b : ℕ) (ch : VaultChange) → is_planned rows.channels b ≡ true → are_tables rows ≡ true
    → are_tables (own_changed b ch rows) ≡ true
tables-changed rows b (TapeRow t) known h =
    let tapes = table-replace (λ (u : Tape). u.n) rows.channels b t rows.tapes known (grind (arith, h)) in
    grind (arith, h, tapes)
tables-changed rows b (ClipRow k) known h =
    let clips = table-replace (λ (u : Clip). u.n) rows.channels b k rows.clips known (grind (arith, h)) in
    grind (arith, h, clips)
tables-changed rows b (OfferRow o) known h =
    let offers = table-replace (λ (u : Offer). u.n) rows.channels b o rows.offers known (grind (arith, h)) in
    grind (arith, h, offers)

number_asked : (n : ℕ) (q : DayCommand) → numbers_in_range n q ≡ true → is_day_number n ≡ true
number_asked n days.Open h = h
number_asked n (days.AddItem at frames source_in mix source) h = grind (arith, h)
number_asked n (days.RemoveItem m) h = h
number_asked n (days.Revise said) h = grind (arith, h)
number_asked n (days.Import list ignore) h = h
number_asked n days.Seal h = h
number_asked n days.WritePlan h = h
number_asked n days.ExportList h = h

-- what was aired stands as it was, whatever is changed of own rows
airings-changed_own : (rows : Centre) (b : ℕ) (ch : VaultChange) → KeepsAirings rows
    → KeepsAirings (own_changed b ch rows)
airings-changed_own rows b (TapeRow t) aired = record { table = aired.table; each = aired.each; sealed = aired.sealed }
airings-changed_own rows b (ClipRow k) aired = record { table = aired.table; each = aired.each; sealed = aired.sealed }
airings-changed_own rows b (OfferRow o) aired = record { table = aired.table; each = aired.each; sealed = aired.sealed }

-- the set's rules hold after a change that keeps the channel's
set-changed : (rows : Centre) (b : ℕ) (p : PlanRow) (put : Put) (ch : VaultChange) → plan_of b rows ≡ Some p
    → KeepsOwnRules (own_after ch (own_of b p rows)) → RowMayBePut put ch (own_of b p rows) → KeepsRules rows
    → KeepsRules (own_changed b ch rows)
set-changed rows b p put ch known kept may rules = record {
  plan = plan_kept ch;
  tables = tables-changed rows b ch (found_planned rows.channels b p known) rules.tables;
  own = λ c q is. at c q (sym (plan_same ch c) ∙ is) (same_or_not b c);
  days = days-changed_own rows b p put ch (in_order rows rules) (rules.own b p known) may rules.days;
  aired = airings-changed_own rows b ch rules.aired;
}
  where
    plan_kept : (ch : VaultChange) → is_plan_in_order (own_changed b ch rows).channels ≡ true
    plan_kept (TapeRow t) = rules.plan
    plan_kept (ClipRow k) = rules.plan
    plan_kept (OfferRow o) = rules.plan

    plan_same : (ch : VaultChange) (c : ℕ) → plan_of c (own_changed b ch rows) ≡ plan_of c rows
    plan_same (TapeRow t) c = refl
    plan_same (ClipRow k) c = refl
    plan_same (OfferRow o) c = refl

    at : (c : ℕ) (q : PlanRow) → plan_of c rows ≡ Some q → (b ≡ c) ⊎ (b ≢ c)
        → KeepsOwnRules (own_of c q (own_changed b ch rows))
    at c q is (inr differ) = subst KeepsOwnRules (sym (own_of-changed_other c b q ch rows differ)) (rules.own c q is)
    at c q is (inl same) =
        let here : plan_of b rows ≡ Some q = subst (λ k. plan_of k rows ≡ Some q) (sym same) is in
        subst (λ k. KeepsOwnRules (own_of k q (own_changed b ch rows))) same
        (subst KeepsOwnRules (sym (own_of-changed_own b q ch rows (in_order rows rules)))
        (subst (λ r. KeepsOwnRules (own_after ch (own_of b r rows))) (some_same (plan_of b rows) p q known here) kept))

-- and after a change of a day
set-with_day : (rows : Centre) (b n : ℕ) (p : PlanRow) (day : Day) → plan_of b rows ≡ Some p
    → IsHeld p (sources_seen (seen_by b p rows)) n day → is_there day.state ≡ true
    → has_sealed n (rows_of b rows.days) ≡ false → KeepsRules rows
    → KeepsRules (record rows { days = replace_row (λ d. d.number) b day rows.days })
set-with_day rows b n p day known held there unsealed rules = record {
  plan = rules.plan;
  tables = rules.tables;
  own = rules.own;
  days = record {
    table =
        table-replace (λ d. d.number) rows.channels b day rows.days (found_planned rows.channels b p known)
        rules.days.table;
    each = each-replace (λ d. d.number) (λ r. KeepsDayRules r.1) b day rows.days held.rules rules.days.each;
    seen = λ c q is. at c q is (same_or_not b c);
  };
  aired = record {
    table = rules.aired.table;
    each = rules.aired.each;
    sealed =
        λ c q is. airings-still q (rows_of c rows.days) (rows_of c (replace_row (λ d. d.number) b day rows.days))
        (still c (same_or_not b c)) 0 (rows_of c rows.aired) (rules.aired.sealed c q is);
  };
}
  where
    -- a sealed day of each channel stays
    still : (c : ℕ) → (b ≡ c) ⊎ (b ≢ c) → (m : ℕ) → has_sealed m (rows_of c rows.days) ≡ true
        → has_sealed m (rows_of c (replace_row (λ d. d.number) b day rows.days)) ≡ true
    still c (inr differ) m has =
        subst (λ ds. has_sealed m ds ≡ true) (sym (rows_of-replace_other (λ d. d.number) b c day rows.days differ)) has
    still c (inl same) m has =
        let mine : has_sealed m (rows_of b rows.days) ≡ true =
        subst (λ k. has_sealed m (rows_of k rows.days) ≡ true) (sym same) has in
        subst (λ k. has_sealed m (rows_of k (replace_row (λ d. d.number) b day rows.days)) ≡ true) same
        (subst (λ ds. has_sealed m ds ≡ true)
        (sym (rows_of-replace_same (λ d. d.number) b day rows.days (days_in_order rows rules)))
        (sealed-replaced m day (rows_of b rows.days) (other (day.number == m) refl mine) mine))
      where
        other : (t : Bool) → (day.number == m) ≡ t → has_sealed m (rows_of b rows.days) ≡ true
            → (day.number == m) ≡ false
        other false e mine = e
        other true e mine =
            let number : n ≡ m = sym held.number ∙ grind (arith, nat_tests, e) in
            absurd (false≢true (sym unsealed ∙ ap (λ k. has_sealed k (rows_of b rows.days)) number ∙ mine))

    frames : (day.frames == day_length p.rate) ≡ true
    frames = let e = held.frames in grind (arith, nat_tests, e)

    is_day : is_day_of p (sources_seen (seen_by b p rows)) day ≡ true
    is_day =
        let items : list_all (λ i. source_holds p day.number (sources_seen (seen_by b p rows)) i i.src) day.items
        ≡ true =
        subst (λ k. list_all (λ i. source_holds p k (sources_seen (seen_by b p rows)) i i.src) day.items ≡ true)
        (sym held.number) held.held in
        grind (arith, there, frames, items)

    some : nat_lt 0 day.number ≡ true
    some = let h = held.rules.some in grind (arith, nat_tests, h)

    at : (c : ℕ) (q : PlanRow) → plan_of c rows ≡ Some q → (b ≡ c) ⊎ (b ≢ c)
        → has_days (record rows { days = replace_row (λ d. d.number) b day rows.days }) c q ≡ true
    at c q is (inr differ) =
        subst (λ ds. are_days_of q (sources_seen (seen_by c q rows)) 0 ds ≡ true)
        (sym (rows_of-replace_other (λ d. d.number) b c day rows.days differ)) (rules.days.seen c q is)
    at c q is (inl same) =
        let here : plan_of b rows ≡ Some q = subst (λ k. plan_of k rows ≡ Some q) (sym same) is in
        subst (λ k. has_days (record rows { days = replace_row (λ d. d.number) b day rows.days }) k q ≡ true) same
        (subst (λ r. has_days (record rows { days = replace_row (λ d. d.number) b day rows.days }) b r ≡ true)
        (some_same (plan_of b rows) p q known here)
        (subst (λ ds. are_days_of p (sources_seen (seen_by b p rows)) 0 ds ≡ true)
        (sym (rows_of-replace_same (λ d. d.number) b day rows.days (days_in_order rows rules)))
        (days-replaced p (sources_seen (seen_by b p rows)) 0 day (rows_of b rows.days) some is_day
        (rules.days.seen b p known))))

-- and after a change of what was aired of one
set-with_airing : (rows : Centre) (b : ℕ) (p : PlanRow) (airing : DayAsRun) → plan_of b rows ≡ Some p
    → KeepsAiringRules airing.aired → is_airing_of p (rows_of b rows.days) airing ≡ true → 0 < airing.day
    → KeepsRules rows
    → KeepsRules (record rows { aired = replace_row (λ a. a.day) b airing rows.aired })
set-with_airing rows b p airing known kept is some rules = record {
  plan = rules.plan;
  tables = rules.tables;
  own = rules.own;
  days = record { table = rules.days.table; each = rules.days.each; seen = rules.days.seen };
  aired = record {
    table =
        table-replace (λ a. a.day) rows.channels b airing rows.aired (found_planned rows.channels b p known)
        rules.aired.table;
    each = each-replace (λ a. a.day) (λ r. KeepsAiringRules r.1.aired) b airing rows.aired kept rules.aired.each;
    sealed = λ c q its. at c q its (same_or_not b c);
  };
}
  where
    at : (c : ℕ) (q : PlanRow) → plan_of c rows ≡ Some q → (b ≡ c) ⊎ (b ≢ c)
        → has_airings (record rows { aired = replace_row (λ a. a.day) b airing rows.aired }) c q ≡ true
    at c q its (inr differ) =
        subst (λ more. are_airings_of q (rows_of c rows.days) 0 more ≡ true)
        (sym (rows_of-replace_other (λ a. a.day) b c airing rows.aired differ)) (rules.aired.sealed c q its)
    at c q its (inl same) =
        let here : plan_of b rows ≡ Some q = subst (λ k. plan_of k rows ≡ Some q) (sym same) its in
        subst (λ k. has_airings (record rows { aired = replace_row (λ a. a.day) b airing rows.aired }) k q ≡ true) same
        (subst (λ r. has_airings (record rows { aired = replace_row (λ a. a.day) b airing rows.aired }) b r ≡ true)
        (some_same (plan_of b rows) p q known here)
        (subst (λ more. are_airings_of p (rows_of b rows.days) 0 more ≡ true)
        (sym (rows_of-replace_same (λ a. a.day) b airing rows.aired (aired_in_order rows rules)))
        (airings-replaced p (rows_of b rows.days) 0 airing (rows_of b rows.aired) (grind (arith, nat_tests, some)) is
        (rules.aired.sealed b p known))))

-- what a command leaves of a day
module _ (rows : Centre) (rules : KeepsRules rows) (b : ℕ) (p : PlanRow) (known : plan_of b rows ≡ Some p) where
  command_leaves : (n : ℕ) (q : DayCommand)
      → LeavesDay p (sources_seen (seen_by b p rows)) n (decision (seen_by b p rows) (commands.Day n q)).1
  unfolding decision
  command_leaves n q = by (numbers_in_range n q) refl
    where
      by : (a : Bool) → numbers_in_range n q ≡ a
          → LeavesDay p (sources_seen (seen_by b p rows)) n
          (if a then day_decision p (day_at p (of_channel b rows.days) n) (sources_seen (seen_by b p rows)) q
          else (replies.Refused (refused NoDay), Nothing)).1
      by false asked = tt
      by true asked =
          leaves p (sources_seen (seen_by b p rows)) n (day_at p (of_channel b rows.days) n)
          (day_held p (sources_seen (seen_by b p rows)) b n rows.days (number_asked n q asked) rules.days.each
          (rules.days.seen b p known)) q asked

  -- a day that is changed wasn't sealed
  unsealed_before : (n : ℕ) (q : DayCommand) (change : ChangedDay)
      → (decision (seen_by b p rows) (commands.Day n q)).1 ≡ OnDay change → has_sealed n (rows_of b rows.days) ≡ false
  unfolding decision
  unsealed_before n q change is =
      sealed_at p (sources_seen (seen_by b p rows)) b n rows.days (rules.days.seen b p known)
      ∙ by (day_at p (of_channel b rows.days) n).state refl
    where
      before : Day
      before = day_at p (of_channel b rows.days) n

      not_nothing : Nothing ≡ OnDay change → ⊥
      not_nothing e = absurd (cc)

      asked : (a : Bool) → before.state ≡ Sealed
          → (if a then day_decision p before (sources_seen (seen_by b p rows)) q
          else (replies.Refused (refused NoDay), Nothing)).1 ≡ Nothing
      asked true sealed = sealed_stays p before (sources_seen (seen_by b p rows)) sealed q
      asked false sealed = refl

      by : (s : DayState) → before.state ≡ s → is_sealed s ≡ false
      by NotThere e = refl
      by Open e = refl
      by Sealed e = let none = asked (numbers_in_range n q) e in absurd (not_nothing (sym none ∙ is))

  airing_left : (n : ℕ) (q : AiringCommand)
      → LeavesAiring p (rows_of b rows.days) (decision (seen_by b p rows) (commands.Airing n q)).1
  unfolding decision
  airing_left n q = by (is_day_number n) refl
    where
      day : Day
      day = day_at p (of_channel b rows.days) n

      by : (a : Bool) → is_day_number n ≡ a
          → LeavesAiring p (rows_of b rows.days)
          (if a then airing_decision p day (airing_at p (of_channel b rows.aired) n) q
          else (replies.Refused (refused NoDay), Nothing)).1
      by false asked = tt
      by true asked =
          let held =
          day_held p (sources_seen (seen_by b p rows)) b n rows.days asked rules.days.each
          (rules.days.seen b p known) in
          airing_leaves p (rows_of b rows.days) day (airing_at p (of_channel b rows.aired) n)
          (airing_held p (rows_of b rows.days) b n rows.aired rules.aired.each (rules.aired.sealed b p known))
          held.rules.some
          (λ sealed. ap (λ m. has_sealed m (rows_of b rows.days)) held.number
          ∙ sealed_at p (sources_seen (seen_by b p rows)) b n rows.days (rules.days.seen b p known)
          ∙ ap is_sealed sealed)
          q

  -- a day's change is one from the day as it stands
  abbrev pub IsFromHeld : ChangedDay → ℕ → Type 0
  IsFromHeld change n =
      IsHeld p (sources_seen (seen_by b p rows)) n (day_at p (of_channel b rows.days) n)
      × (change ≡ changed_day (day_at p (of_channel b rows.days) n) change.day)

  from_held : (n : ℕ) (q : DayCommand) (change : ChangedDay)
      → OnDay change ≡ (decision (seen_by b p rows) (commands.Day n q)).1 → IsFromHeld change n
  unfolding decision
  from_held n q change made = by (numbers_in_range n q) refl made
    where
      before : Day
      before = day_at p (of_channel b rows.days) n

      by : (a : Bool) → numbers_in_range n q ≡ a
          → OnDay change
          ≡ (if a then day_decision p before (sources_seen (seen_by b p rows)) q
          else (replies.Refused (refused NoDay), Nothing)).1 → IsFromHeld change n
      by false asked made = absurd (cc)
      by true asked made = (
        day_held p (sources_seen (seen_by b p rows)) b n rows.days (number_asked n q asked) rules.days.each
            (rules.days.seen b p known),
        subst (IsFromDay p (sources_seen (seen_by b p rows)) n before) (sym made)
            (comes_from p (sources_seen (seen_by b p rows)) n before q),
      )

  pub day_left : (q : Command) (change : ChangedDay) → OnDay change ≡ (decision (seen_by b p rows) q).1
      → (n : ℕ) × IsHeld p (sources_seen (seen_by b p rows)) n change.day × (is_there change.day.state ≡ true)
      × IsHeld p (sources_seen (seen_by b p rows)) n (day_at p (of_channel b rows.days) n)
      × (change ≡ changed_day (day_at p (of_channel b rows.days) n) change.day)
  unfolding decision
  day_left (commands.Vault q) day made =
      absurd
      (subst (λ ch. own_changed_so ch (own_of b p rows))
      (sym (made ∙ ap (λ s. (vault_decision s.own q).1) (seen_is b p rows)))
      (own_kept (own_of b p rows) q (rules.own b p known)))
  day_left (commands.Day n q) day made =
      let left = subst (LeavesDay p (sources_seen (seen_by b p rows)) n) (sym made) (command_leaves n q) in
      let from = from_held n q day made in
      (n, left.0, left.1, from.0, from.1)
  day_left (commands.Airing n q) day made =
      absurd (subst (LeavesAiring p (rows_of b rows.days)) (sym made) (airing_left n q))
  day_left commands.PlanRow day made = absurd (cc)
  day_left (commands.Table table) day made = absurd (cc)

  -- what was aired of a day, where it is changed, has one batch more
  pub batch_left : (q : Command) (a : DayAsRun) → OnAiring a ≡ (decision (seen_by b p rows) q).1
      → HasMore (airing_at p (of_channel b rows.aired) a.day) a.aired
  unfolding decision
  batch_left (commands.Vault q) a made =
      absurd
      (subst (λ ch. own_changed_so ch (own_of b p rows))
      (sym (made ∙ ap (λ s. (vault_decision s.own q).1) (seen_is b p rows)))
      (own_kept (own_of b p rows) q (rules.own b p known)))
  batch_left (commands.Day n q) a made =
      absurd (subst (LeavesDay p (sources_seen (seen_by b p rows)) n) (sym made) (command_leaves n q))
  batch_left (commands.Airing n q) a made = by (is_day_number n) refl made
    where
      by : (e : Bool) → is_day_number n ≡ e
          → OnAiring a
          ≡ (if e
          then airing_decision p (day_at p (of_channel b rows.days) n) (airing_at p (of_channel b rows.aired) n) q
          else (replies.Refused (refused NoDay), Nothing)).1
          → HasMore (airing_at p (of_channel b rows.aired) a.day) a.aired
      by false asked made = absurd (cc)
      by true asked made =
          let more =
          more_left p (day_at p (of_channel b rows.days) n) (airing_at p (of_channel b rows.aired) n) a q made in
          let held =
          day_held p (sources_seen (seen_by b p rows)) b n rows.days asked rules.days.each
          (rules.days.seen b p known) in
          subst (λ m. HasMore (airing_at p (of_channel b rows.aired) m) a.aired) (sym (more.0 ∙ held.number)) more.1
  batch_left commands.PlanRow a made = absurd (cc)
  batch_left (commands.Table table) a made = absurd (cc)

pub KeepsRules-after : (rows : Centre) (r : Request) → KeepsRules rows → KeepsRules (after rows r)
unfolding after changed decision
KeepsRules-after rows (b, commands.Vault q) rules = at (plan_of b rows) refl
  where
    done : (p : PlanRow) → plan_of b rows ≡ Some p → (ch : Change) → own_changed_so ch (own_of b p rows)
        → KeepsRules (changed b ch rows)
    done p known Nothing kept = rules
    done p known (OnVault put ch) kept = set-changed rows b p put ch known kept.0 kept.1 rules
    done p known (OnDay change) kept = absurd kept
    done p known (OnAiring airing) kept = absurd kept

    at : (o : Option PlanRow) → plan_of b rows ≡ o → KeepsRules (after_at o rows (b, commands.Vault q))
    at None known = rules
    at (Some p) known =
        subst (λ s. KeepsRules (changed b (decision s (commands.Vault q)).1 rows)) (sym (seen_is b p rows))
        (done p known (vault_decision (own_seen (own_of b p rows)) q).1
        (own_kept (own_of b p rows) q (rules.own b p known)))
KeepsRules-after rows (b, commands.Day n q) rules = at (plan_of b rows) refl
  where
    done : (p : PlanRow) → plan_of b rows ≡ Some p → (ch : Change)
        → (decision (seen_by b p rows) (commands.Day n q)).1 ≡ ch → LeavesDay p (sources_seen (seen_by b p rows)) n ch
        → KeepsRules (changed b ch rows)
    done p known Nothing is left = rules
    done p known (OnVault put ch) is left = absurd left
    done p known (OnDay change) is left =
        set-with_day rows b n p change.day known left.0 left.1 (unsealed_before rows rules b p known n q change is)
        rules
    done p known (OnAiring airing) is left = absurd left

    at : (o : Option PlanRow) → plan_of b rows ≡ o → KeepsRules (after_at o rows (b, commands.Day n q))
    at None known = rules
    at (Some p) known =
        done p known (decision (seen_by b p rows) (commands.Day n q)).1 refl (command_leaves rows rules b p known n q)
KeepsRules-after rows (b, commands.Airing n q) rules = at (plan_of b rows) refl
  where
    done : (p : PlanRow) → plan_of b rows ≡ Some p → (ch : Change) → LeavesAiring p (rows_of b rows.days) ch
        → KeepsRules (changed b ch rows)
    done p known Nothing left = rules
    done p known (OnVault put ch) left = absurd left
    done p known (OnDay change) left = absurd left
    done p known (OnAiring airing) left = set-with_airing rows b p airing known left.0 left.1 left.2 rules

    at : (o : Option PlanRow) → plan_of b rows ≡ o → KeepsRules (after_at o rows (b, commands.Airing n q))
    at None known = rules
    at (Some p) known =
        done p known (decision (seen_by b p rows) (commands.Airing n q)).1 (airing_left rows rules b p known n q)
KeepsRules-after rows (b, commands.PlanRow) rules = at (plan_of b rows)
  where
    at : (o : Option PlanRow) → KeepsRules (after_at o rows (b, commands.PlanRow))
    at None = rules
    at (Some p) = rules
KeepsRules-after rows (b, commands.Table table) rules = at (plan_of b rows)
  where
    at : (o : Option PlanRow) → KeepsRules (after_at o rows (b, commands.Table table))
    at None = rules
    at (Some p) = rules

-- a plan alone keeps the rules
plan_row_of : (plan : List PlanRow) (c : ℕ) (p : PlanRow) → is_plan_in_order plan ≡ true
    → find (λ q. q.ch == c) plan ≡ Some p → is_plan_row p ≡ true
plan_row_of [] c p h known = cc
plan_row_of (q ∷ plan) c p h known =
    elim (q.ch == c) as (λ b. (if b then Some q else find (λ q. q.ch == c) plan) ≡ Some p → is_plan_row p ≡ true) [
      | true ↦ λ e. let same : q ≡ p = cc in subst (λ (r : PlanRow). is_plan_row r ≡ true) same (grind (arith, h))
      | false ↦ λ e. plan_row_of plan c p (grind (arith, h)) e
    ] known

pub plan_keeps_rules : (plan : List PlanRow) (tapes : Table Tape) (clips : Table Clip) (offers : Table Offer)
    (days : Table Day) (aired : Table DayAsRun) → is_plan_in_order plan ≡ true → tapes ≡ [] → clips ≡ [] → offers ≡ []
    → days ≡ [] → aired ≡ []
    → KeepsRules (record { channels = plan; tapes = tapes; clips = clips; offers = offers; days = days; aired = aired })
plan_keeps_rules plan tapes clips offers days aired h no_tapes no_clips no_offers no_days none_aired =
    subst KeepsRules
    (λ i. record {
      channels = plan;
      tapes = sym no_tapes i;
      clips = sym no_clips i;
      offers = sym no_offers i;
      days =
          sym no_days i;
      aired = sym none_aired i;
    })
    (record {
      plan = h;
      tables = refl;
      own = λ c p known. no_tape_kept p (plan_row_of plan c p h known);
      days =
          record { table = refl; each = tt; seen = λ c p known. refl };
      aired =
          record { table = refl; each = tt; sealed = λ c p known. refl };
    })

-- and so does the change of a command
pub change_keeps : (rows : Centre) (c : ℕ) (change : Change) → KeepsRules rows → IsChangeOf c change rows
    → KeepsRules (changed c change rows)
unfolding after
change_keeps rows c change rules (q, p, known, is) =
    let kept : KeepsRules (after_at (Some p) rows (c, q)) =
    subst (λ o. KeepsRules (after_at o rows (c, q))) known (KeepsRules-after rows (c, q) rules) in
    subst (λ ch. KeepsRules (changed c ch rows)) (sym is) kept

-- and what it leaves of own rows
pub own_left : (rows : Centre) (c : ℕ) (change : Change) → KeepsRules rows → (is : IsChangeOf c change rows)
    → own_stays_so change (own_of c is.1 rows)
own_left rows c change rules is =
    subst (λ ch. own_stays_so ch (own_of c is.1 rows))
    (sym (is.3 ∙ ap (λ s. (decision s is.0).1) (seen_is c is.1 rows)))
    (decision_kept (view_at c rows is.1) is.0 (rules.own c is.1 is.2))
