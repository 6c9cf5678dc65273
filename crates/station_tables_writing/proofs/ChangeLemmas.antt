-- A change over the set that the tables hold.
use Rattle.std.proofs.Common.{◌≡◌, ℕ, OnOk, OnErr, Ok, Err, Result, IsTrue, refl, sym, ap, ◌∙◌, subst, arith}
use Rattle.sqlite.specs.State.{State, HasCleanDisk, Survives}
use Rattle.vault_core.specs.declared.tape.Tape.{Tape}
use Rattle.vault_core.specs.declared.clip.Clip.{Clip}
use Rattle.vault_core.specs.declared.offer.Offer.{Offer}
use Rattle.channel_view_model.specs.declared.command.Change.{Change}
use Rattle.channel_view_model.specs.declared.command.Change.TheVariants.{Nothing, Vault as OnVault, Day as OnDay}
use Rattle.channel_view_model.specs.declared.command.Change.TheVariants.{Airing as OnAiring}
use Rattle.channel_plan.specs.declared.plan.PlanRow.{PlanRow}
use Rattle.asrun_match.specs.declared.day.DayAsRun.{DayAsRun}
use Rattle.asrun_match.specs.Aired.{Airing}
use Rattle.channel_view_model.specs.Airings.{airing_at}
use Rattle.channel_view_model.specs.Tables.{of_channel}
use Rattle.channel_view_model.specs.Centre.{plan_of, day_changed, airing_changed}
use Rattle.channel_view_model.specs.Days.{day_at}
use Rattle.playlist_core.specs.Difference.{ChangedDay}
use Rattle.channel_view_model.proofs.RuleLemmas.{day_left, batch_left}
use Rattle.channel_view_model.proofs.ViewLemmas.{found_channel}
use Rattle.station_tables_records.specs.MadeAirings.{airing_of_rows}
use Rattle.station_tables_records.proofs.AiredLemmas.{batches_rise}
use Rattle.station_tables_statements.specs.AiredCalls.{airings_in, GetsBatch, GetsBatchNow, PutsAiring}
use Rattle.station_tables_writing.proofs.AiringChangeLemmas.{airing_changes}
use Rattle.station_tables_statements.proofs.AiringSeenLemmas.{airing_seen_is}
use Rattle.station_tables_records.specs.MadeDays.{frames_in, frames_of}
use Rattle.station_tables_statements.specs.DayCalls.{PutsDay, MakesDay, ComesFromNow, days_in as days_held}
use Rattle.station_tables_writing.proofs.FromLemmas.{makes_day}
use Rattle.station_tables_writing.proofs.DayChangeLemmas.{day_changes}
use Rattle.station_tables_statements.specs.Rows.{channels_in}
use Rattle.station_tables_records.specs.TablePairs.{offer_rows_in}
use Rattle.station_tables_records.specs.MadeOffers.{offer_made}
use Rattle.station_tables_records.specs.declared.offer_rows.SpanRow.{SpanRow}
use Rattle.channel_view_model.specs.declared.command.VaultChange.TheVariants.{Tape as TapeRow, Clip as ClipRow}
use Rattle.channel_view_model.specs.declared.command.VaultChange.TheVariants.{Offer as OfferRow}
use Rattle.vault_core.specs.declared.command.Put.TheVariants.{Added}
use Rattle.std.specs.Prelude.{Some, List, [], ◌∷◌, map}
use Rattle.timecode.specs.Counting.{day_length}
use Rattle.asrun_match.specs.Batches.{with_batch}
use Rattle.channel_view_model.specs.Centre.{Centre, Request, after_at, after, changed, IsChangeOf}
use Rattle.channel_view_model.specs.Rules.{KeepsRules}
use Rattle.station_tables_records.specs.TapeRows.{LacksTape}
use Rattle.station_tables_records.specs.ClipRows.{LacksClip}
use Rattle.station_tables_records.specs.OfferRows.{LacksOffer}
use Rattle.station_tables_statements.specs.Rows.{rows_of_tables, HasSet, HoldsSet, Changes}
use Rattle.station_tables_statements.proofs.AddLemmas.{is_new, clip_is_new, offer_is_new}
use Rattle.station_tables_statements.specs.Calls.{LacksTapeNow, LacksClipNow, LacksOfferNow}

pub both_ok : {X E : Type 0} (r : Result X E) (P Q : Type 0) → OnOk r P → OnOk r Q → OnOk r (P × Q)
both_ok (Ok x) P Q p q = (p, q)
both_ok (Err e) P Q p q = tt

pub weaker_err : {X E : Type 0} (r : Result X E) {P Q : Type 0} → (P → Q) → OnErr r P → OnErr r Q
weaker_err (Ok x) f p = tt
weaker_err (Err e) f p = f p

pub nothing_changed : (c : ℕ) (rows : Centre) → changed c Nothing rows ≡ rows
unfolding changed
nothing_changed c rows = refl

-- the rules are kept by each request
abbrev pub RulesAreKept : Type 0
RulesAreKept = (all : Centre) (r : Request) → KeepsRules all → KeepsRules (after all r)

module _ (c : ℕ) (change : Change) (rows : Centre) (is : IsChangeOf c change rows) where
  -- it is the step of the command whose change it is
  step_is : after rows (c, is.0) ≡ changed c change rows
  unfolding after
  step_is = ap (λ o. after_at o rows (c, is.0)) is.2 ∙ ap (λ x. changed c x rows) (sym is.3)

  rules_after : RulesAreKept → KeepsRules rows → KeepsRules (changed c change rows)
  rules_after law rules = subst KeepsRules step_is (law rows (c, is.0) rules)

  -- a statement that made such a change has left the changed set
  holds_changed : RulesAreKept → (f : Centre → Centre) → f rows ≡ changed c change rows → (old new : State)
      → HoldsSet rows old.now → Changes f old new → HoldsSet (changed c change rows) new.now
  holds_changed law f is_so old new holds made =
      record {
        centre = made.centre;
        sound = made.sound holds.sound;
        rows_are =
            made.content ∙ ap f holds.rows_are ∙ is_so;
        owned = made.owned holds.owned;
        rules = rules_after law holds.rules;
      }

-- what is said of a change by its kind
pub of_kind : (c : ℕ) (change x : Change) → change ≡ x → (rows : Centre) → IsChangeOf c change rows
    → (P : Centre → Type 0) → (IsChangeOf c x rows → P (changed c x rows)) → P (changed c change rows)
of_kind c change x e rows is P made =
    subst (λ y. P (changed c y rows)) (sym e) (made (subst (λ y. IsChangeOf c y rows) e is))

pub sets_changed : (c : ℕ) (change x : Change) → change ≡ x → (rows : Centre) → IsChangeOf c change rows → RulesAreKept
    → (old new : State) → HasSet old rows → Survives old new (λ _. ⊥) → HasCleanDisk new
    → (f : Centre → Centre) → (KeepsRules rows → IsChangeOf c x rows → f rows ≡ changed c x rows)
    → (IsChangeOf c x rows → Changes f old new) → IsTrue new.is_open × HoldsSet (changed c change rows) new.now
sets_changed c change x e rows is law old new has survives clean f is_so makes =
    of_kind c change x e rows is (λ all. IsTrue new.is_open × HoldsSet all new.now) (λ asked.
    let made = makes asked in
    let holds : HoldsSet rows old.now = has (omega (arith, survives.clean, clean)) made.shown.was_open in
    (made.shown.is_open, holds_changed c x rows asked law f (is_so holds.rules asked) old new holds made))

-- a number that no row of the channel has

pub tape_is_new : (c : ℕ) (t : Tape) (rows : Centre) → IsChangeOf c (OnVault Added (TapeRow t)) rows → (old : State)
    → HasSet old rows → LacksTapeNow c t old
tape_is_new c t rows is old has clean o =
    let s = has clean o in
    subst (λ (all : Centre). LacksTape c t.n all.tapes) (sym s.rows_are) (is_new c t rows s.rules is)

pub lacks_clip : (c : ℕ) (k : Clip) (rows : Centre) → IsChangeOf c (OnVault Added (ClipRow k)) rows → (old : State)
    → HasSet old rows → LacksClipNow c k old
lacks_clip c k rows is old has clean o =
    let s = has clean o in
    subst (λ (all : Centre). LacksClip c k.n all.clips) (sym s.rows_are) (clip_is_new c k rows s.rules is)

-- a number that no offer has, no row of offers has
raw_lacks : (c n : ℕ) (spans : List (ℕ × SpanRow)) (os : List (ℕ × Offer)) → LacksOffer c n (map (offer_made spans) os)
    → LacksOffer c n os
raw_lacks c n spans [] none = tt
raw_lacks c n spans (o ∷ os) none = (none.0, raw_lacks c n spans os none.1)

pub lacks_offer : (c : ℕ) (o : Offer) (rows : Centre) → IsChangeOf c (OnVault Added (OfferRow o)) rows → (old : State)
    → HasSet old rows → LacksOfferNow c o old
lacks_offer c o rows is old has clean now_open =
    let s = has clean now_open in
    raw_lacks c o.n (offer_rows_in old.now.trees).spans (offer_rows_in old.now.trees).offers
    (subst (λ (all : Centre). LacksOffer c o.n all.offers) (sym s.rows_are) (offer_is_new c o rows s.rules is))

-- a day put in its place
module _ (c : ℕ) (d : ChangedDay) (rows : Centre) (is : IsChangeOf c (OnDay d) rows) where
  frames_are : KeepsRules rows → frames_of rows.channels c ≡ d.day.frames
  frames_are rules =
      let plan : PlanRow = is.1 in
      ap frames_in is.2 ∙ sym (day_left rows rules c plan is.2 is.0 d is.3).1.frames

  -- it is one from the day that the tables hold
  pub comes_from : (old : State) → HasSet old rows → ComesFromNow c d old
  comes_from old has clean opened =
      let s = has clean opened in
      let plan : PlanRow = is.1 in
      let left = day_left rows s.rules c plan is.2 is.0 d is.3 in
      let made = makes_day plan (channels_in old.now.trees) c left.0 (days_held old) s.owned.0 in
      let day_is : day_at plan (of_channel c (rows_of_tables old.now.trees).days) left.0
      ≡ day_at plan (of_channel c rows.days) left.0 =
      ap (λ (all : Centre). day_at plan (of_channel c all.days) left.0) s.rows_are in
      record {
        before = day_at plan (of_channel c rows.days) left.0;
        number = left.3.number ∙ sym left.1.number;
        is_from =
            left.4;
        made = subst (λ day. MakesDay c day (days_held old)) day_is made;
      }

  pub holds_day : RulesAreKept → (old new : State) → HoldsSet rows old.now → PutsDay c d.day old new
      → HoldsSet (changed c (OnDay d) rows) new.now
  unfolding changed
  holds_day law old new holds puts =
      holds_changed c (OnDay d) rows is law (day_changed c d.day) refl old new holds
      (day_changes c d.day old new holds.centre
      (ap (λ (all : Centre). frames_of all.channels c) holds.rows_are ∙ frames_are holds.rules) puts)

-- what was aired of a day, with one batch more
module _ (c : ℕ) (a : DayAsRun) (rows : Centre) (is : IsChangeOf c (OnAiring a) rows) where
  abbrev plan_is : PlanRow
  plan_is = is.1

  mine : plan_is.ch ≡ c
  mine = found_channel c rows.channels plan_is is.2

  known : plan_of plan_is.ch rows ≡ Some plan_is
  known = subst (λ k. plan_of k rows ≡ Some plan_is) (sym mine) is.2

  module _ (s : State) (holds : HoldsSet rows s.now) where
    rows_seen : airing_at plan_is (of_channel c rows.aired) a.day
        ≡ airing_of_rows (day_length plan_is.rate) c a.day (airings_in s)
    rows_seen =
        let set_is : rows_of_tables s.now.trees ≡ rows = holds.rows_are in
        let there : plan_of plan_is.ch (rows_of_tables s.now.trees) ≡ Some plan_is =
        ap (plan_of plan_is.ch) set_is ∙ known in
        let seen =
        airing_seen_is (channels_in s.now.trees) plan_is there (airings_in s)
        (batches_rise s.now.trees holds.centre.batches) holds.owned.1 a.day in
        subst
        (λ k. airing_at plan_is (of_channel k rows.aired) a.day
        ≡ airing_of_rows (day_length plan_is.rate) k a.day (airings_in s)) mine
        (ap (λ (all : Centre). airing_at plan_is (of_channel plan_is.ch all.aired) a.day) (sym set_is) ∙ seen)

    frames_aired : a.aired.frames ≡ day_length plan_is.rate
    frames_aired =
        let more = batch_left rows holds.rules c plan_is is.2 is.0 a is.3 in
        ap (λ (x : Airing). x.frames) more.1 ∙ ap (λ (x : Airing). x.frames) rows_seen

    gets : GetsBatch c a (airings_in s)
    gets =
        let more = batch_left rows holds.rules c plan_is is.2 is.0 a is.3 in
        record {
          rows = more.0;
          whole = holds.owned.1;
          aired =
              more.1
              ∙ ap (with_batch more.0)
              (rows_seen ∙ ap (λ frames. airing_of_rows frames c a.day (airings_in s)) (sym frames_aired));
        }

  pub gets_batch : (old : State) → HasSet old rows → GetsBatchNow c a old
  gets_batch old has clean opened = gets old (has clean opened)

  pub holds_airing : RulesAreKept → (old new : State) → HoldsSet rows old.now → PutsAiring c a old new
      → HoldsSet (changed c (OnAiring a) rows) new.now
  unfolding changed
  holds_airing law old new holds puts =
      holds_changed c (OnAiring a) rows is law (airing_changed c a) refl old new holds
      (airing_changes c a old new holds.centre
      (ap (λ (all : Centre). frames_of all.channels c) holds.rows_are ∙ ap frames_in is.2
      ∙ sym (frames_aired old holds)) puts)
