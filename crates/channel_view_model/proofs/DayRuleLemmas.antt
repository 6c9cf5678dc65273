-- A command on a day leaves a day that keeps the rules.
use Rattle.std.proofs.Common.{◌≡◌, ℕ, ◌+◌, ◌<◌, ◌≤◌, List, [], ◌∷◌, Bool, true, false, not, ◌&&◌, ◌||◌, cond, inl, inr}
use Rattle.std.proofs.Common.{◌⊎◌, refl, sym, ap, subst, arith}
use Rattle.std.specs.Prelude.{◌==◌, nat_lt, nat_le, find, filter, is_some, codes, drop, length, slice_index, All}
use Rattle.std.specs.Prelude.{Option, Some, None, Result, Ok, Err, bytes_eq, if◌then◌else◌}
use Rattle.std.specs.List.{list_all}
use Rattle.std.proofs.lemmas.Bool.Decides.{nat_tests}
use Rattle.std.proofs.lemmas.List.Elements.{All-tail}
use Rattle.timecode.specs.Counting.{day_length}
use Rattle.timecode.specs.Rate.{is_same_rate}
use Rattle.channel_plan.specs.declared.plan.PlanRow.{PlanRow}
use Rattle.channel_plan.specs.declared.refusal.Code.{Code}
use Rattle.channel_plan.specs.declared.refusal.Code.TheVariants.{PastDayEnd, MixLong, ClipRetired, Withdrawn}
use Rattle.channel_plan.specs.declared.refusal.Code.TheVariants.{OutsideWindow, RateDiffers}
use Rattle.channel_plan.specs.declared.refusal.Refusal.{Refusal}
use Rattle.channel_plan.specs.Refusal.{refused}
use Rattle.vault_core.specs.declared.clip.Clip.{Clip}
use Rattle.grant_core.specs.declared.grant.Grant.{Grant}
use Rattle.channel_plan.specs.declared.fault.ListFault.{ListFault}
use Rattle.edl.specs.Faults.{first_fault}
use Rattle.edl.specs.Text.{lines_of}
use Rattle.edl.specs.Entry.{EventEntry}
use Rattle.playlist_core.specs.declared.item.EditKind.{EditKind}
use Rattle.playlist_core.specs.declared.item.EditKind.TheVariants.{Cut, Dissolve, Wipe}
use Rattle.playlist_core.specs.declared.item.Item.{Item}
use Rattle.playlist_core.specs.declared.item.NewItem.{NewItem}
use Rattle.playlist_core.specs.declared.source.Source.{Source}
use Rattle.playlist_core.specs.declared.source.Source.TheVariants.{Black, Bars, Own as OwnClip, Lent as LentClip}
use Rattle.playlist_core.specs.declared.day.DayState.{DayState}
use Rattle.playlist_core.specs.declared.day.DayState.TheVariants.{Open, Sealed}
use Rattle.vault_core.specs.Window.{is_in}
use Rattle.playlist_core.specs.Order.{put}
use Rattle.playlist_core.specs.Picture.{first_painted, first_empty}
use Rattle.playlist_core.specs.Source.{SourcesSeen, found}
use Rattle.playlist_core.specs.Item.{is_kind, numbered}
use Rattle.playlist_core.specs.Day.{Day, KeepsDayRules, unless, range_fault, row_fault, source_fault}
use Rattle.playlist_core.specs.Day.{unless_taken, with_number, free_number, item_of, item_in, item_for, with_item}
use Rattle.playlist_core.specs.Day.{without_item, day_opened, day_sealed, number_of, number_removed, unless_recalled}
use Rattle.playlist_core.specs.Day.{unless_outside, unless_empty, is_recalled, is_outside, picture_in}
use Rattle.playlist_core.proofs.AddLemmas.{accepted, for_open, opened, passed, rules-with_item}
use Rattle.playlist_core.proofs.RemoveLemmas.{rules-without_item}
use Rattle.playlist_edl.specs.Importing.{HasShortMix, is_skipped, new_of, item_of_kind, item_of_event, with_taken}
use Rattle.playlist_edl.specs.Importing.{day_after, go_on, after_events, unless_faulty, events_in, import_of, counts_of}
use Rattle.playlist_edl.proofs.MixLemmas.{short_mixes, three_digits_short}
use Rattle.std.specs.Str.Parse.{digits_value}
use Rattle.timecode.specs.Decimal.{is_decimal, decimal_number}
use Rattle.playlist_core.specs.Item.{kind_of, wipe}
use Rattle.channel_view_model.specs.declared.command.Change.{Change}
use Rattle.channel_view_model.specs.declared.command.Change.TheVariants.{Nothing, Vault as OnVault, Day as OnDay}
use Rattle.channel_view_model.specs.declared.command.Change.TheVariants.{Airing as OnAiring}
use Rattle.channel_view_model.specs.declared.command.Reply.{Reply}
use Rattle.channel_view_model.specs.declared.command.Reply.TheVariants as replies
use Rattle.channel_view_model.specs.declared.day_command.DayCommand.{DayCommand}
use Rattle.channel_view_model.specs.declared.day_command.DayCommand.TheVariants as days
use Rattle.playlist_core.specs.Difference.{changed_day}
use Rattle.channel_view_model.specs.Days.{is_day_number, no_day, frame_named, item_at, item_said, item_of_said}
use Rattle.channel_view_model.specs.Days.{kind_of_mix}
use Rattle.channel_view_model.specs.Decide.{answered, written, table_of_day, numbers_in_range, day_decision}
use Rattle.channel_view_model.specs.Decide.{revision_change, revision_made}
use Rattle.channel_view_model.specs.declared.revision.ItemRefusal.{ItemRefusal}
use Rattle.channel_view_model.specs.declared.revision.SaidItem.{SaidItem}
use Rattle.channel_view_model.specs.Revision.{SaidRevision, is_wipe, is_said, is_revision, says_nothing}
use Rattle.channel_view_model.specs.Revising.{taken_out, day_without, kind_said, of_kind, put_in, day_with, and_then}
use Rattle.channel_view_model.specs.Revising.{at_place, in_turn, day_revised}
use Rattle.channel_view_model.specs.Rules.{holds, row_holds, source_holds, is_there}

module _ (plan : PlanRow) (seen : SourcesSeen) (n : ℕ) where
  abbrev pub is_held : Item → Bool
  is_held i = source_holds plan n seen i i.src

  -- Day n of the channel, there or not, whose items show what is there.
  pub record IsHeld (day : Day) : Type 0 where
    pub rules : KeepsDayRules day
    pub frames : day.frames ≡ day_length plan.rate
    pub held : list_all is_held day.items ≡ true
    pub number : day.number ≡ n

  -- a source without a fault is there and holds the item
  in_range : (first frames m : ℕ) (source : Source) (new : NewItem) → range_fault first frames new ≡ None
      → (nat_le first new.src_first && nat_le (new.src_first + new.frames) (first + frames)) ≡ true
  in_range first frames m source new h = grind (arith, nat_tests, h)

  row_shown : (m : ℕ) (source : Source) (new : NewItem) (row : Option (Clip ⊎ Grant))
      → (numbered m source new).src_first ≡ new.src_first → row_fault plan n new row ≡ None
      → row_holds plan n (numbered m source new) row ≡ true
  row_shown m source new None first h =
      let h : is_some (row_fault plan n new None) ≡ false = ap is_some h in absurd (cc)
  row_shown m source new (Some (inl k)) first h =
      elim k.retired
      as (λ b. (if b then Some ClipRetired else range_fault k.src_first k.frames new) ≡ None
      → row_holds plan n (numbered m source new) (Some (inl k)) ≡ true) [
        | true ↦ λ e. absurd (cc)
        | false ↦ λ e. rw first (in_range k.src_first k.frames m source new e)
      ] h
  row_shown m source new (Some (inr g)) first h =
      elim g.offer.withdrawn
      as (λ b.
      (if b then Some Withdrawn else if not (is_in g.offer.window n) then Some OutsideWindow
      else if not (is_same_rate g.offer.rate plan.rate) then Some RateDiffers
      else range_fault g.offer.src_first g.offer.frames new) ≡ None
      → row_holds plan n (numbered m source new) (Some (inr g)) ≡ true) [
        | true ↦ λ e. absurd (cc)
        | false ↦ elim (is_in g.offer.window n)
            as (λ b.
            (if not b then Some OutsideWindow
            else if not (is_same_rate g.offer.rate plan.rate) then Some RateDiffers
            else range_fault g.offer.src_first g.offer.frames new) ≡ None
            → (b && is_same_rate g.offer.rate plan.rate
            && holds g.offer.src_first g.offer.frames (numbered m source new)) ≡ true) [
              | true ↦ elim (is_same_rate g.offer.rate plan.rate)
                  as (λ b. (if not b then Some RateDiffers else range_fault g.offer.src_first g.offer.frames new) ≡ None
                  → (b && holds g.offer.src_first g.offer.frames (numbered m source new)) ≡ true) [
                    | true ↦ λ e. rw first (in_range g.offer.src_first g.offer.frames m source new e)
                    | false ↦ λ e. absurd (cc)
                  ]
              | false ↦ λ e. absurd (cc)
            ]
      ] h

  source_shown : (m : ℕ) (source : Source) (new : NewItem) → source_fault plan n seen new source ≡ None
      → source_holds plan n seen (numbered m source new) source ≡ true
  source_shown m Black new h = refl
  source_shown m Bars new h = refl
  source_shown m (OwnClip k) new h = row_shown m (OwnClip k) new (found seen (OwnClip k)) refl h
  source_shown m (LentClip owner k) new h = row_shown m (LentClip owner k) new (found seen (LentClip owner k)) refl h

  no_fault : (o : Option Code) (r : Result Item Refusal) (item : Item) → unless o r ≡ Ok item
      → (o ≡ None) × (r ≡ Ok item)
  no_fault None r item h = (refl, h)
  no_fault (Some code) r item h = absurd (cc)

  not_taken : (o : Option ℕ) (r : Result Item Refusal) (item : Item) → unless_taken plan o r ≡ Ok item → r ≡ Ok item
  not_taken None r item h = h
  not_taken (Some p) r item h = absurd (cc)

  shown_with : (o : Option ℕ) (source : Source) (new : NewItem) (item : Item)
      → source_fault plan n seen new source ≡ None → with_number o source new ≡ Ok item → is_held item ≡ true
  shown_with None source new item none h = absurd (cc)
  shown_with (Some m) source new item none h =
      let same : numbered m source new ≡ item = cc in
      subst (λ (i : Item). is_held i ≡ true) same (source_shown m source new none)

  module _ (day : Day) (new : NewItem) (item : Item) (its : day.number ≡ n) where
    shown_of : (o : Option Source) → item_of day plan seen new o ≡ Ok item → is_held item ≡ true
    shown_of None h = absurd (cc)
    shown_of (Some source) h =
        let taken = first_painted new.pos new.frames (picture_in day) in
        let number = with_number (free_number day.items) source new in
        let shown =
        no_fault (source_fault plan day.number seen new source)
        (if nat_lt new.frames new.mix then Err (refused MixLong) else unless_taken plan taken number) item h in
        let short =
        passed (nat_lt new.frames new.mix) (refused MixLong) (unless_taken plan taken number) item shown.1 in
        shown_with (free_number day.items) source new item
        (subst (λ k. source_fault plan k seen new source ≡ None) its shown.0) (not_taken taken number item short.1)

    item_shown : item_in day plan seen new ≡ Ok item → is_held item ≡ true
    unfolding item_in
    item_shown h =
        shown_of new.src
        (passed (nat_lt day.frames (new.pos + new.frames)) (refused PastDayEnd) (item_of day plan seen new new.src) item
        h).1

  held_put : (a : Item → Bool) (x : Item) (items : List Item) → is_held x ≡ true → list_all is_held items ≡ true
      → list_all is_held (put a x items) ≡ true
  held_put a x [] one all = grind (arith, one)
  held_put a x (i ∷ is) one all =
      let rest : list_all is_held (put a x is) ≡ true = held_put a x is one (grind (arith, all)) in
      elim (a i) as (λ b. list_all is_held (if b then x ∷ i ∷ is else i ∷ put a x is) ≡ true) [
        | true ↦ grind (arith, one, all)
        | false ↦ grind (arith, all, rest)
      ]

  held_filter : (a : Item → Bool) (items : List Item) → list_all is_held items ≡ true
      → list_all is_held (filter a items) ≡ true
  held_filter a [] all = refl
  held_filter a (i ∷ is) all =
      let rest : list_all is_held (filter a is) ≡ true = held_filter a is (grind (arith, all)) in
      elim (a i) as (λ b. list_all is_held (cond b (i ∷ filter a is) (filter a is)) ≡ true) [
        | true ↦ grind (arith, all, rest)
        | false ↦ rest
      ]

  module _ (day : Day) (is : IsHeld day) where
    -- an item more
    held-with_item : (new : NewItem) (item : Item) → day.state ≡ Open → 0 < new.frames → new.mix ≤ 999
        → is_kind new.kind ≡ true → item_in day plan seen new ≡ Ok item → IsHeld (with_item item day)
    held-with_item new item is_open some mix kind made = record {
      rules = rules-with_item day is.rules is_open new some mix kind item (accepted day plan seen new item made);
      frames = is.frames;
      held =
          held_put (λ i. nat_lt item.pos (i.pos + i.frames)) item day.items (item_shown day new item is.number made)
          is.held;
      number = is.number;
    }

    held_for : (new : NewItem) (item : Item) → new.mix ≤ 999 → is_kind new.kind ≡ true
        → item_for day plan seen new ≡ Ok item → IsHeld (with_item item day) × (is_there day.state ≡ true)
    held_for new item mix kind made =
        let taken = for_open day plan seen new item made in
        (held-with_item new item taken.0 taken.1 mix kind taken.2, ap is_there taken.0)

  -- the items of a list, one after another
  kind_is : (word : List ℕ) (kind : EditKind) → kind_of word ≡ Some kind → is_kind kind ≡ true
  kind_is word kind h =
      elim (bytes_eq word (codes "C"))
      as (λ b.
      (if b then Some Cut else if bytes_eq word (codes "D") then Some Dissolve
      else if slice_index word 0 == 87 then wipe (decimal_number 3 (drop 1 word)) else None) ≡ Some kind
      → is_kind kind ≡ true) [
        | true ↦ λ e. of_some Cut kind refl e
        | false ↦ elim (bytes_eq word (codes "D"))
            as (λ b.
            (if b then Some Dissolve else if slice_index word 0 == 87 then wipe (decimal_number 3 (drop 1 word))
            else None)
            ≡ Some kind → is_kind kind ≡ true) [
              | true ↦ λ e. of_some Dissolve kind refl e
              | false ↦ elim (slice_index word 0 == 87)
                  as (λ b. (if b then wipe (decimal_number 3 (drop 1 word)) else None) ≡ Some kind
                  → is_kind kind ≡ true) [
                    | true ↦ λ e. wipe_is (drop 1 word) (is_decimal 3 (drop 1 word)) refl e
                    | false ↦ λ e. absurd (cc)
                  ]
            ]
      ] h
    where
      of_some : (one other : EditKind) → is_kind one ≡ true → Some one ≡ Some other → is_kind other ≡ true
      of_some one other is e = let same : one ≡ other = cc in subst (λ (k : EditKind). is_kind k ≡ true) same is

      wipe_is : (digits : List ℕ) (b : Bool) → is_decimal 3 digits ≡ b
          → wipe (if b then Some (digits_value 10 digits) else None) ≡ Some kind → is_kind kind ≡ true
      wipe_is digits false is e = absurd (cc)
      wipe_is digits true is e =
          let short = three_digits_short digits is in
          of_some (Wipe (digits_value 10 digits)) kind (grind (arith, nat_tests, short)) e

  event_held : (day : Day) (event : EventEntry) (later : Day) → day.state ≡ Open → HasShortMix event → IsHeld day
      → day_after day plan seen event ≡ Ok later → IsHeld later × (later.state ≡ Open)
  unfolding day_after
  event_held day event later is_open short is made = by (is_skipped event) refl
    where
      taken : (r : Result Item Refusal) → ((item : Item) → r ≡ Ok item → IsHeld (with_item item day))
          → with_taken event.line day r ≡ Ok later → IsHeld later × (later.state ≡ Open)
      taken (Ok item) each h =
          let same : with_item item day ≡ later = cc in
          (subst IsHeld same (each item refl), subst (λ (d : Day). d.state ≡ Open) same is_open)
      taken (Err e) each h = absurd (cc)

      item : is_skipped event ≡ false → (item : Item) → item_of_event day plan seen event ≡ Ok item
          → IsHeld (with_item item day)
      item counted i h = of_kind (kind_of event.kind) refl h
        where
          of_kind : (o : Option EditKind) → kind_of event.kind ≡ o → item_of_kind day plan seen event o ≡ Ok i
              → IsHeld (with_item i day)
          of_kind None is_key h = absurd (cc)
          of_kind (Some kind) its h =
              let plain = passed event.speed _ (item_in day plan seen (new_of plan event kind)) i h in
              let some : 0 < event.length = grind (arith, nat_tests, counted, plain.0) in
              held-with_item day is (new_of plan event kind) i is_open some short (kind_is event.kind kind its) plain.1

      by : (b : Bool) → is_skipped event ≡ b → IsHeld later × (later.state ≡ Open)
      by true skipped =
          let same : day ≡ later = grind (arith, skipped, made) in
          (subst IsHeld same is, subst (λ (d : Day). d.state ≡ Open) same is_open)
      by false counted =
          taken (item_of_event day plan seen event) (item counted)
          (subst (λ b. (if b then Ok day else with_taken event.line day (item_of_event day plan seen event)) ≡ Ok later)
          counted made)

  events_held : (day : Day) (events : List EventEntry) (later : Day) → day.state ≡ Open → All HasShortMix events
      → IsHeld day → after_events day plan seen events ≡ Ok later → IsHeld later × (later.state ≡ Open)
  events_held day [] later is_open short is made =
      let same : day ≡ later = cc in
      (subst IsHeld same is, subst (λ (d : Day). d.state ≡ Open) same is_open)
  events_held day (event ∷ events) later is_open short is made =
      by (day_after day plan seen event) refl
      (λ next open_next held h. events_held next events later open_next (All-tail HasShortMix event events short) held
      h) made
    where
      by : (r : Result Day Refusal) → day_after day plan seen event ≡ r
          → ((next : Day) → next.state ≡ Open → IsHeld next → after_events next plan seen events ≡ Ok later
          → IsHeld later × (later.state ≡ Open))
          → go_on r (λ next. after_events next plan seen events) ≡ Ok later → IsHeld later × (later.state ≡ Open)
      by (Err e) was rest h = absurd (cc)
      by (Ok next) was rest h =
          let first = event_held day event next is_open (short 0 event (omega arith)) is was in
          rest next first.1 first.0 h

  not_faulty : (o : Option ListFault) (r : Result Day Refusal) (later : Day) → unless_faulty o r ≡ Ok later
      → r ≡ Ok later
  not_faulty None r later h = h
  not_faulty (Some fault) r later h = absurd (cc)

  import_held : (day : Day) (ignore : Bool) (list : List ℕ) (later : Day) → IsHeld day
      → import_of day plan seen ignore list ≡ Ok later → IsHeld later × (is_there later.state ≡ true)
  unfolding import_of
  import_held day ignore list later is made =
      let open_day =
      opened day.state
      (unless_faulty (first_fault plan.rate ignore list) (after_events day plan seen (events_in plan.rate list)))
      later made in
      let events =
      not_faulty (first_fault plan.rate ignore list) (after_events day plan seen (events_in plan.rate list)) later
      open_day.1 in
      let held =
      events_held day (events_in plan.rate list) later open_day.0 (short_mixes plan.rate 1 (lines_of list)) is
      events in
      (held.0, ap is_there held.1)

  -- each change of a day
  abbrev pub LeavesDay : Change → Type 0
  LeavesDay Nothing = Unit {0}
  LeavesDay (OnVault put change) = ⊥
  LeavesDay (OnDay change) = IsHeld change.day × (is_there change.day.state ≡ true)
  LeavesDay (OnAiring airing) = ⊥

  by_result : {X : Type 0} (before : Day) (reply : X → Reply) (after : X → Day) (r : Result X Refusal)
      → ((x : X) → r ≡ Ok x → IsHeld (after x) × (is_there (after x).state ≡ true))
      → LeavesDay (answered (λ x. (reply x, OnDay (changed_day before (after x)))) r).1
  by_result before reply after (Ok x) each = each x refl
  by_result before reply after (Err e) each = tt

  -- a change from a day
  abbrev pub IsFromDay : Day → Change → Type 0
  IsFromDay before Nothing = Unit {0}
  IsFromDay before (OnVault put change) = ⊥
  IsFromDay before (OnDay change) = change ≡ changed_day before change.day
  IsFromDay before (OnAiring airing) = ⊥

  from_result : {X : Type 0} (before : Day) (reply : X → Reply) (after : X → Day) (r : Result X Refusal)
      → IsFromDay before (answered (λ x. (reply x, OnDay (changed_day before (after x)))) r).1
  from_result before reply after (Ok x) = refl
  from_result before reply after (Err e) = tt

  from_text : (before : Day) (r : Result (List ℕ) Refusal) → IsFromDay before (written r).1
  from_text before (Ok text) = tt
  from_text before (Err e) = tt

  from_revision : (said : SaidRevision) (before : Day) (r : Result Day ItemRefusal)
      → IsFromDay before (revision_made said before r).1
  from_revision said before (Ok after) = by (says_nothing said)
    where
      by : (nothing : Bool) → IsFromDay before (revision_change nothing before after)
      by true = tt
      by false = refl
  from_revision said before (Err e) = tt

  pub comes_from : (day : Day) (q : DayCommand) → IsFromDay day (day_decision plan day seen q).1
  unfolding day_decision
  comes_from day days.Open = from_result day replies.Day (λ k. record day { state = Open }) (day_opened day)
  comes_from day (days.AddItem at frames source_in mix source) =
      from_result day (λ i. replies.Item i.n) (λ i. with_item i day)
      (item_of_said day plan seen (item_said plan at frames source_in mix source))
  comes_from day (days.RemoveItem m) = from_result day replies.Item (λ k. without_item m day) (number_removed day m)
  comes_from day (days.Revise said) = from_revision said day (day_revised plan seen said day)
  comes_from day (days.Import list ignore) =
      from_result day (λ d. replies.Items (counts_of (events_in plan.rate list))) (λ d. d)
      (import_of day plan seen ignore list)
  comes_from day days.Seal = from_result day replies.Day (λ k. record day { state = Sealed }) (day_sealed day plan seen)
  comes_from day days.WritePlan = from_text day (table_of_day plan day)
  comes_from day days.ExportList = from_text day _

  by_text : (r : Result (List ℕ) Refusal) → LeavesDay (written r).1
  by_text (Ok text) = tt
  by_text (Err e) = tt

  mix_kind : (mix : ℕ) → is_kind (kind_of_mix mix) ≡ true
  mix_kind mix = elim (mix == 0) as (λ b. is_kind (if b then Cut else Dissolve) ≡ true) [ true ↦ refl | false ↦ refl ]

  -- an item's mix is what is said
  mix_said : (frames mix : ℕ) (source : List ℕ) (at first : Result ℕ Refusal) (new : NewItem)
      → item_at plan frames mix source at first ≡ Ok new → new.mix ≡ mix
  mix_said frames mix source (Err e) first new h = absurd (cc)
  mix_said frames mix source (Ok at) (Err e) new h = absurd (cc)
  mix_said frames mix source (Ok at) (Ok first) new h = cc

  kind_is_said : (wipe : Option ℕ) (mix : ℕ) → is_wipe wipe ≡ true → is_kind (kind_said wipe mix) ≡ true
  kind_is_said None mix h = mix_kind mix
  kind_is_said (Some k) mix h = h

  -- what is left of a day is one of its channel, and is there
  abbrev Leaves : Day → Type 0
  Leaves later = IsHeld later × (is_there later.state ≡ true)

  module _ (day : Day) (is : IsHeld day) where
    removed : (m k : ℕ) → number_removed day m ≡ Ok k → IsHeld (without_item m day) × (is_there day.state ≡ true)
    removed m k h =
        let open_day = opened day.state (number_of (find (λ i. i.n == m) day.items)) k h in (
          record {
            rules = rules-without_item m day open_day.0 is.rules;
            frames = is.frames;
            held = held_filter (λ i. not (i.n == m)) day.items is.held;
            number = is.number;
          },
          ap is_there open_day.0,
        )

    one_out : (m : ℕ) (later : Day) → day_without m day ≡ Ok later → Leaves later
    one_out m later h = by (number_removed day m) refl h
      where
        by : (r : Result ℕ Refusal) → number_removed day m ≡ r → taken_out m day r ≡ Ok later → Leaves later
        by (Err e) was made = absurd (cc)
        by (Ok k) was made = let same : without_item m day ≡ later = cc in subst Leaves same (removed m k was)

    of_new : (r : Result NewItem Refusal) (kind : EditKind) (later : Day) → is_kind kind ≡ true
        → ((new : NewItem) → r ≡ Ok new → new.mix ≤ 999)
        → put_in day (item_of_said day plan seen (of_kind kind r)) ≡ Ok later → Leaves later
    of_new (Err e) kind later is_one short h = absurd (cc)
    of_new (Ok new) kind later is_one short h = by (item_for day plan seen (record new { kind = kind })) refl h
      where
        by : (r : Result Item Refusal) → item_for day plan seen (record new { kind = kind }) ≡ r
            → put_in day r ≡ Ok later → Leaves later
        by (Err e) was made = absurd (cc)
        by (Ok i) was made =
            let same : with_item i day ≡ later = cc in
            subst Leaves same (held_for day is (record new { kind = kind }) i (short new refl) is_one was)

    one_in : (said : SaidItem) (later : Day) → is_said said ≡ true → day_with plan seen said day ≡ Ok later
        → Leaves later
    one_in said later asked h =
        let mix : said.mix ≤ 999 = grind (arith, nat_tests, asked) in
        of_new (item_said plan said.at said.frames said.source_in said.mix said.source) (kind_said said.wipe said.mix)
        later
        (kind_is_said said.wipe said.mix (grind (arith, asked)))
        (λ new made. subst (λ m. m ≤ 999)
        (sym
        (mix_said said.frames said.mix said.source (frame_named plan said.at) (frame_named plan said.source_in) new
        made)) mix)
        h

  -- one of a list after another: the day is there where it was, or where there is one of the list
  abbrev Later : {X : Type 0} → List X → Day → Day → Type 0
  Later xs day later =
      IsHeld later × ((is_there day.state || not (length xs == 0)) ≡ true → is_there later.state ≡ true)

  turns : {X : Type 0} (test : X → Bool) (step : X → Day → Result Day Refusal)
      → ((x : X) (day later : Day) → test x ≡ true → IsHeld day → step x day ≡ Ok later → Leaves later)
      → (k : ℕ) (xs : List X) (day later : Day) → list_all test xs ≡ true → IsHeld day
      → in_turn step k xs day ≡ Ok later → Later xs day later
  turns {X} test step each k [] day later all is h =
      let same : day ≡ later = cc in subst (Later {X = X} [] day) same (is, λ why. there (is_there day.state) why)
    where
      there : (b : Bool) → (b || false) ≡ true → b ≡ true
      there true e = refl
      there false e = e
  turns {X} test step each k (x ∷ xs) day later all is h =
      by (step x day) refl h
      (λ next held made. turns test step each (k + 1) xs next later (grind (arith, all)) held made)
    where
      or_true : (b c : Bool) → b ≡ true → (b || c) ≡ true
      or_true true c e = refl
      or_true false c e = absurd (cc)

      by : (r : Result Day Refusal) → step x day ≡ r → and_then (at_place k r) (in_turn step (k + 1) xs) ≡ Ok later
          → ((next : Day) → IsHeld next → in_turn step (k + 1) xs next ≡ Ok later → Later xs next later)
          → Later (x ∷ xs) day later
      by (Err e) was made rest = absurd (cc)
      by (Ok next) was made rest =
          let one = each x day next (grind (arith, all)) is was in
          let more = rest next one.0 made in
          (more.0, λ why. more.1 (or_true (is_there next.state) (not (length xs == 0)) one.1))

  any_number : (ns : List ℕ) → list_all (λ n. true) ns ≡ true
  any_number [] = refl
  any_number (n ∷ ns) = any_number ns

  joined : (a b c d e : Bool) → ((a || not b) ≡ true → c ≡ true) → ((c || not d) ≡ true → e ≡ true) → (b && d) ≡ false
      → e ≡ true
  joined a true c true e out put some = absurd (cc)
  joined a true true false e out put some = put refl
  joined a true false false e out put some = put refl
  joined a false true true e out put some = put refl
  joined a false true false e out put some = put refl
  joined true false false d e out put some = absurd (let none = out refl in cc)
  joined false false false d e out put some = absurd (let none = out refl in cc)

  revision_held : (day : Day) (said : SaidRevision) (later : Day) → IsHeld day → is_revision said ≡ true
      → says_nothing said ≡ false → day_revised plan seen said day ≡ Ok later → Leaves later
  unfolding day_revised
  revision_held day said later is asked some h = by (in_turn day_without 1 said.remove day) refl h
    where
      by : (r : Result Day ItemRefusal) → in_turn day_without 1 said.remove day ≡ r
          → and_then r (in_turn (day_with plan seen) 1 said.add) ≡ Ok later → Leaves later
      by (Err e) was made = absurd (cc)
      by (Ok next) was made =
          let out =
          turns (λ n. true) day_without (λ n d l t held step. one_out d held n l step) 1 said.remove day next
          (any_number said.remove) is was in
          let put =
          turns is_said (day_with plan seen) (λ i d l t held step. one_in d held i l t step) 1 said.add next later
          (grind (arith, asked)) out.0 made in (
            put.0,
            joined (is_there day.state) (length said.remove == 0) (is_there next.state) (length said.add == 0)
                (is_there later.state) out.1 put.1 some,
          )

  module _ (day : Day) (is : IsHeld day) where
    said : (frames mix : ℕ) (source : List ℕ) (at first : Result ℕ Refusal) (item : Item) → mix ≤ 999
        → item_of_said day plan seen (item_at plan frames mix source at first) ≡ Ok item
        → IsHeld (with_item item day) × (is_there day.state ≡ true)
    said frames mix source (Err e) first item le h = absurd (cc)
    said frames mix source (Ok at) (Err e) item le h = absurd (cc)
    said frames mix source (Ok at) (Ok first) item le h = held_for day is _ item le (mix_kind mix) h

    open_now : (s : DayState) → day.state ≡ s → (k : ℕ) → day_opened day ≡ Ok k → IsHeld (record day { state = Open })
    open_now s was k h = record {
      rules =
          record {
            some = is.rules.some;
            digits = is.rules.digits;
            apart = is.rules.apart;
            numbered =
                is.rules.numbered;
            fields = is.rules.fields;
            state = tt;
          };
      frames = is.frames;
      held = is.held;
      number = is.number;
    }

    not_recalled : (o : Option Item) (r : Result ℕ Refusal) (k : ℕ) → unless_recalled o r ≡ Ok k → r ≡ Ok k
    not_recalled None r k h = h
    not_recalled (Some i) r k h = absurd (cc)

    not_outside : (o : Option Item) (r : Result ℕ Refusal) (k : ℕ) → unless_outside o r ≡ Ok k → r ≡ Ok k
    not_outside None r k h = h
    not_outside (Some i) r k h = absurd (cc)

    not_empty : (o : Option ℕ) (r : Result ℕ Refusal) (k : ℕ) → unless_empty plan o r ≡ Ok k → o ≡ None
    not_empty None r k h = refl
    not_empty (Some p) r k h = absurd (cc)

    sealed_now : (k : ℕ) → day_sealed day plan seen ≡ Ok k → IsHeld (record day { state = Sealed })
    unfolding day_sealed
    sealed_now k h =
        let open_day =
        opened day.state
        (unless_recalled (find (is_recalled seen) day.items)
        (unless_outside (find (is_outside seen day.number) day.items)
        (unless_empty plan (first_empty (picture_in day)) (Ok day.number)))) k h in
        let within =
        not_recalled (find (is_recalled seen) day.items)
        (unless_outside (find (is_outside seen day.number) day.items)
        (unless_empty plan (first_empty (picture_in day)) (Ok day.number))) k open_day.1 in
        let none =
        not_empty (first_empty (picture_in day)) (Ok day.number) k
        (not_outside (find (is_outside seen day.number) day.items)
        (unless_empty plan (first_empty (picture_in day)) (Ok day.number)) k within) in
        record {
          rules =
              record {
                some = is.rules.some;
                digits = is.rules.digits;
                apart = is.rules.apart;
                numbered =
                    is.rules.numbered;
                fields = is.rules.fields;
                state = none;
              };
          frames = is.frames;
          held = is.held;
          number = is.number;
        }

    pub leaves : (q : DayCommand) → numbers_in_range n q ≡ true → LeavesDay (day_decision plan day seen q).1
    unfolding day_decision
    leaves days.Open asked =
        by_result day replies.Day (λ k. record day { state = Open }) (day_opened day)
        (λ k h. (open_now day.state refl k h, refl))
    leaves (days.AddItem at frames source_in mix source) asked =
        by_result day (λ i. replies.Item i.n) (λ i. with_item i day)
        (item_of_said day plan seen (item_said plan at frames source_in mix source))
        (λ i h. said frames mix source (frame_named plan at) (frame_named plan source_in) i
        (grind (arith, nat_tests, asked)) h)
    leaves (days.RemoveItem m) asked =
        by_result day replies.Item (λ k. without_item m day) (number_removed day m) (λ k h. removed day is m k h)
    leaves (days.Revise said) asked = by (day_revised plan seen said day) refl
      where
        by : (r : Result Day ItemRefusal) → day_revised plan seen said day ≡ r → LeavesDay (revision_made said day r).1
        by (Err e) was = tt
        by (Ok later) was = of_some (says_nothing said) refl
          where
            of_some : (b : Bool) → says_nothing said ≡ b → LeavesDay (revision_change b day later)
            of_some true none = tt
            of_some false some = revision_held day said later is (grind (arith, asked)) some was
    leaves (days.Import list ignore) asked =
        by_result day (λ d. replies.Items (counts_of (events_in plan.rate list))) (λ d. d)
        (import_of day plan seen ignore list) (λ d h. import_held day ignore list d is h)
    leaves days.Seal asked =
        by_result day replies.Day (λ k. record day { state = Sealed }) (day_sealed day plan seen)
        (λ k h. (sealed_now k h, refl))
    leaves days.WritePlan asked = by_text (table_of_day plan day)
    leaves days.ExportList asked = by_text _

  -- a day that isn't there
  pub not_there_held : is_day_number n ≡ true → IsHeld (no_day plan n)
  not_there_held h = record {
    rules =
        record {
          some = grind (arith, nat_tests, h);
          digits = grind (arith, nat_tests, h);
          apart = omega arith;
          numbered =
              tt;
          fields = refl;
          state = refl;
        };
    frames = refl;
    held = refl;
    number = refl;
  }
