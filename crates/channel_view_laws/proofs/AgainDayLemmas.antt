-- A command on a day, or on what was aired of it, that is sent again, right after it was done.
use Rattle.std.proofs.Common.{◌≡◌, ◌⊎◌, ℕ, ◌+◌, ◌-◌, ◌<◌, ◌≤◌, List, [], ◌∷◌, Bool, true, false, cond, refl, sym, ◌∙◌}
use Rattle.std.proofs.Common.{ap, subst, inl, inr, arith}
use Rattle.std.specs.Prelude.{◌==◌, nat_lt, find, Option, Some, None, Result, Ok, Err, not, is_some, filter}
use Rattle.std.specs.Prelude.{if◌then◌else◌}
use Rattle.std.proofs.lemmas.Bool.Decides.{nat_tests}
use Rattle.channel_plan.specs.declared.plan.PlanRow.{PlanRow}
use Rattle.channel_plan.specs.declared.refusal.Code.{Code}
use Rattle.channel_plan.specs.declared.refusal.Code.TheVariants.{PastDayEnd, MixLong, EmptyItem, SpeedEvent, Overlap}
use Rattle.channel_plan.specs.declared.refusal.Code.TheVariants.{NoItem, DayKnown, DaySealed}
use Rattle.channel_plan.specs.declared.refusal.Refusal.{Refusal}
use Rattle.channel_plan.specs.Refusal.{refused}
use Rattle.edl.specs.Entry.{EventEntry}
use Rattle.playlist_core.specs.declared.day.DayState.{DayState}
use Rattle.playlist_core.specs.declared.day.DayState.TheVariants.{NotThere, Open, Sealed}
use Rattle.playlist_core.specs.declared.item.EditKind.{EditKind}
use Rattle.playlist_core.specs.declared.item.Item.{Item}
use Rattle.playlist_core.specs.declared.item.NewItem.{NewItem}
use Rattle.playlist_core.specs.declared.source.Source.{Source}
use Rattle.playlist_core.specs.Source.{SourcesSeen}
use Rattle.playlist_core.specs.Picture.{covers, is_painted, first_painted}
use Rattle.playlist_core.specs.Item.{kind_of, planned}
use Rattle.playlist_core.specs.Day.{Day, picture_in, refused_at, if_open, source_fault, unless, unless_taken}
use Rattle.playlist_core.specs.Day.{with_number, free_number, item_of, item_in, item_for, with_item, without_item}
use Rattle.playlist_core.specs.Day.{number_of, if_not_there, day_sealed}
use Rattle.playlist_core.specs.Difference.{changed_day}
use Rattle.playlist_core.proofs.PictureLemmas.{least_here}
use Rattle.playlist_core.proofs.AddLemmas.{accepted}
use Rattle.playlist_edl.specs.Importing.{is_skipped, new_of, item_of_kind, item_of_event, with_taken, day_after, go_on}
use Rattle.playlist_edl.specs.Importing.{after_events, unless_faulty, events_in, counts_of, import_of}
use Rattle.playlist_edl.specs.Exporting.{exported}
use Rattle.edl.specs.Faults.{first_fault}
use Rattle.channel_view_model.specs.declared.command.Reply.{Reply}
use Rattle.channel_view_model.specs.declared.command.Reply.TheVariants as replies
use Rattle.channel_view_model.specs.declared.command.Outcome.TheVariants.{Replied}
use Rattle.channel_view_model.specs.declared.command.Command.TheVariants as commands
use Rattle.channel_view_model.specs.declared.command.Change.TheVariants.{Nothing, Day as OnDay}
use Rattle.channel_view_model.specs.declared.day_command.DayCommand.{DayCommand}
use Rattle.channel_view_model.specs.declared.day_command.DayCommand.TheVariants as days
use Rattle.channel_view_model.specs.Days.{item_said, item_of_said}
use Rattle.channel_view_model.specs.Decide.{Decided, answered, item_added, written, table_of_day, day_decision}
use Rattle.channel_view_model.specs.Decide.{revision_change, revision_made}
use Rattle.channel_view_model.specs.declared.revision.ItemRefusal.{ItemRefusal}
use Rattle.channel_view_model.specs.Revision.{counts_said, says_nothing}
use Rattle.channel_view_model.specs.Revising.{day_revised}
use Rattle.channel_view_laws.specs.Again.{day_done, may_repeat, IsRefusedByOne}
use Rattle.vault_core.proofs.AgainLemmas.{passes}
use Rattle.channel_view_laws.proofs.PaintedLemmas.{stays_painted, paints, not_zero}
use Rattle.channel_view_laws.proofs.AgainReviseLemmas.{HasCode, RevisedAgain, revised_again}

-- A day later on: with more items, where nothing was taken out.
record IsLater (day later : Day) : Type 0 where
  number : later.number ≡ day.number
  frames : later.frames ≡ day.frames
  state : later.state ≡ day.state
  painted : (q : ℕ) → q < day.frames → is_painted (picture_in day) q ≡ true → is_painted (picture_in later) q ≡ true

at_once : (day : Day) → IsLater day day
at_once day = record { number = refl; frames = refl; state = refl; painted = λ q lt is. is }

in_turn : (a b c : Day) → IsLater a b → IsLater b c → IsLater a c
in_turn a b c ab bc = record {
  number = bc.number ∙ ab.number;
  frames = bc.frames ∙ ab.frames;
  state = bc.state ∙ ab.state;
  painted = λ q lt is. bc.painted q (subst (λ f. q < f) (sym ab.frames) lt) (ab.painted q lt is);
}

with_one_more : (day : Day) (item : Item) → IsLater day (with_item item day)
with_one_more day item =
    record { number = refl; frames = refl; state = refl; painted = λ q lt is. stays_painted day item q lt is }

-- an item that a day took is refused later on: its first frame is taken
module _ (day later : Day) (plan : PlanRow) (seen : SourcesSeen) (new : NewItem) (item : Item) (some : 0 < new.frames)
    (made : item_in day plan seen new ≡ Ok item) (is : IsLater (with_item item day) later) where
  first_taken : first_painted new.pos new.frames (picture_in later) ≡ Some new.pos
  first_taken =
      let it = accepted day plan seen new item made in
      let place : item.pos ≡ new.pos = ap (λ (i : Item). i.pos) it.is in
      let long : item.frames ≡ new.frames = ap (λ (i : Item). i.frames) it.is in
      let within : new.pos + new.frames ≤ day.frames = it.within in
      least_here (is_painted (picture_in later)) new.pos new.frames some
      (is.painted new.pos (omega arith) (paints day item new.pos (omega arith) (omega arith) (omega arith)))

  refused_later : item_in later plan seen new ≡ Err (refused_at Overlap plan new.pos)
  unfolding item_in
  refused_later =
      let within =
      passes (nat_lt day.frames (new.pos + new.frames)) (refused PastDayEnd) (item_of day plan seen new new.src)
      item made in
      ap (λ f. if nat_lt f (new.pos + new.frames) then Err (refused PastDayEnd)
      else item_of later plan seen new new.src) is.frames
      ∙ ap (λ b. if b then Err (refused PastDayEnd) else item_of later plan seen new new.src) within.0
      ∙ by new.src within.1
    where
      taken : Day → Source → Result Item Refusal
      taken d source =
          unless_taken plan (first_painted new.pos new.frames (picture_in d))
          (with_number (free_number d.items) source new)

      under : (source : Source) (fault : Option Code)
          → unless fault (if nat_lt new.frames new.mix then Err (refused MixLong) else taken day source) ≡ Ok item
          → unless fault (if nat_lt new.frames new.mix then Err (refused MixLong) else taken later source)
          ≡ Err (refused_at Overlap plan new.pos)
      under source (Some code) h = absurd (cc)
      under source None h =
          let short = passes (nat_lt new.frames new.mix) (refused MixLong) (taken day source) item h in
          ap (λ b. if b then Err (refused MixLong) else taken later source) short.0
          ∙ ap (λ o. unless_taken plan o (with_number (free_number later.items) source new)) first_taken

      by : (o : Option Source) → item_of day plan seen new o ≡ Ok item
          → item_of later plan seen new o ≡ Err (refused_at Overlap plan new.pos)
      by None h = absurd (cc)
      by (Some source) h =
          ap (λ n. unless (source_fault plan n seen new source)
          (if nat_lt new.frames new.mix then Err (refused MixLong) else taken later source)) is.number
          ∙ under source (source_fault plan day.number seen new source) h

item_again : (day : Day) (plan : PlanRow) (seen : SourcesSeen) (new : NewItem) (item : Item)
    → item_for day plan seen new ≡ Ok item
    → item_for (with_item item day) plan seen new ≡ Err (refused_at Overlap plan new.pos)
unfolding item_for
item_again day plan seen new item made = by day.state made
  where
    by : (s : DayState)
        → if_open s (if new.frames == 0 then Err (refused EmptyItem) else item_in day plan seen new) ≡ Ok item
        → if_open s (if new.frames == 0 then Err (refused EmptyItem) else item_in (with_item item day) plan seen new)
        ≡ Err (refused_at Overlap plan new.pos)
    by NotThere h = absurd (cc)
    by Sealed h = absurd (cc)
    by Open h =
        let some = passes (new.frames == 0) (refused EmptyItem) (item_in day plan seen new) item h in
        ap (λ b. if b then Err (refused EmptyItem) else item_in (with_item item day) plan seen new) some.0
        ∙ refused_later day (with_item item day) plan seen new item (not_zero new.frames some.0) some.1
        (at_once (with_item item day))

-- the items of events come one after another
module _ (plan : PlanRow) (seen : SourcesSeen) where
  one_later : (day next : Day) (event : EventEntry) → day_after day plan seen event ≡ Ok next → IsLater day next
  unfolding day_after
  one_later day next event made = by (is_skipped event) made
    where
      taken : (r : Result Item Refusal) → with_taken event.line day r ≡ Ok next → IsLater day next
      taken (Err e) h = absurd (cc)
      taken (Ok item) h = let same : with_item item day ≡ next = cc in subst (IsLater day) same (with_one_more day item)

      by : (b : Bool) → (if b then Ok day else with_taken event.line day (item_of_event day plan seen event)) ≡ Ok next
          → IsLater day next
      by true h = let same : day ≡ next = cc in subst (IsLater day) same (at_once day)
      by false h = taken (item_of_event day plan seen event) h

  all_later : (events : List EventEntry) (day last : Day) → after_events day plan seen events ≡ Ok last
      → IsLater day last
  all_later [] day last made = let same : day ≡ last = cc in subst (IsLater day) same (at_once day)
  all_later (event ∷ events) day last made =
      by (λ next. all_later events next last) (day_after day plan seen event) refl made
    where
      by : ((next : Day) → after_events next plan seen events ≡ Ok last → IsLater next last) → (r : Result Day Refusal)
          → day_after day plan seen event ≡ r → go_on r (λ next. after_events next plan seen events) ≡ Ok last
          → IsLater day last
      by rest (Err e) is h = absurd (cc)
      by rest (Ok next) is h = in_turn day next last (one_later day next event is) (rest next h)

  -- that an event's item is refused later on
  event_again : (day later : Day) (event : EventEntry) (item : Item) → is_skipped event ≡ false
      → item_of_event day plan seen event ≡ Ok item → IsLater (with_item item day) later
      → (p : ℕ) × (item_of_event later plan seen event ≡ Err (refused_at Overlap plan p))
  event_again day later event item taken made is = by (kind_of event.kind) made
    where
      by : (k : Option EditKind) → item_of_kind day plan seen event k ≡ Ok item
          → (p : ℕ) × (item_of_kind later plan seen event k ≡ Err (refused_at Overlap plan p))
      by None h = absurd (cc)
      by (Some kind) h =
          let slow = passes event.speed (refused SpeedEvent) (item_in day plan seen (new_of plan event kind)) item h in
          let still : event.speed ≡ false = slow.0 in
          let some : (event.length == 0) ≡ false = grind (arith, nat_tests, taken, still) in (
            ((new_of plan event kind).pos),
            ap (λ b. if b then Err (refused SpeedEvent) else item_in later plan seen (new_of plan event kind)) slow.0
                ∙ refused_later day later plan seen (new_of plan event kind) item (not_zero event.length some) slow.1
                is,
          )

  -- A list that is taken again: of events that are all skipped it leaves the day, else the first item is refused.
  events_again : (events : List EventEntry) (day last later : Day) → after_events day plan seen events ≡ Ok last
      → IsLater last later
      → ((last ≡ day) × (after_events later plan seen events ≡ Ok later))
      ⊎ ((p : ℕ) × (after_events later plan seen events ≡ Err (refused_at Overlap plan p)))
  unfolding day_after
  events_again [] day last later made is = inl (cc, refl)
  events_again (event ∷ events) day last later made is =
      by (is_skipped event) refl made (λ h. events_again events day last later h is)
    where
      rest : Day → Result Day Refusal
      rest next = after_events next plan seen events

      taken : is_skipped event ≡ false → (r : Result Item Refusal) → item_of_event day plan seen event ≡ r
          → go_on (with_taken event.line day r) rest ≡ Ok last
          → (p : ℕ)
          × (go_on (with_taken event.line later (item_of_event later plan seen event)) rest
          ≡ Err (refused_at Overlap plan p))
      taken asked (Err e) is-refused h = absurd (cc)
      taken asked (Ok item) is-made h =
          let after : IsLater (with_item item day) later =
          in_turn (with_item item day) last later (all_later events (with_item item day) last h) is in
          let again = event_again day later event item asked is-made after in
          (again.0, ap (λ r. go_on (with_taken event.line later r) rest) again.1)

      by : (b : Bool) → is_skipped event ≡ b
          → go_on (if b then Ok day else with_taken event.line day (item_of_event day plan seen event)) rest ≡ Ok last
          → (rest day ≡ Ok last
          → ((last ≡ day) × (rest later ≡ Ok later)) ⊎ ((p : ℕ) × (rest later ≡ Err (refused_at Overlap plan p))))
          → ((last ≡ day)
          × (go_on
          (if is_skipped event then Ok later else with_taken event.line later (item_of_event later plan seen event))
          rest ≡ Ok later))
          ⊎ ((p : ℕ)
          × (go_on
          (if is_skipped event then Ok later else with_taken event.line later (item_of_event later plan seen event))
          rest ≡ Err (refused_at Overlap plan p)))
      by true passed h others =
          subst
          (λ b.
          ((last ≡ day)
          × (go_on (if b then Ok later else with_taken event.line later (item_of_event later plan seen event)) rest
          ≡ Ok later))
          ⊎ ((p : ℕ)
          × (go_on (if b then Ok later else with_taken event.line later (item_of_event later plan seen event)) rest
          ≡ Err (refused_at Overlap plan p)))) (sym passed)
          (others h)
      by false asked h others =
          subst
          (λ b.
          ((last ≡ day)
          × (go_on (if b then Ok later else with_taken event.line later (item_of_event later plan seen event)) rest
          ≡ Ok later))
          ⊎ ((p : ℕ)
          × (go_on (if b then Ok later else with_taken event.line later (item_of_event later plan seen event)) rest
          ≡ Err (refused_at Overlap plan p)))) (sym asked)
          (inr (taken asked (item_of_event day plan seen event) refl h))

import_again : (day last : Day) (plan : PlanRow) (seen : SourcesSeen) (ignore : Bool) (text : List ℕ)
    → import_of day plan seen ignore text ≡ Ok last
    → ((last ≡ day) × (day.state ≡ Open))
    ⊎ ((p : ℕ) × (import_of last plan seen ignore text ≡ Err (refused_at Overlap plan p)))
unfolding import_of
import_again day last plan seen ignore text made = by day.state refl made
  where
    taken : Day → Result Day Refusal
    taken d = after_events d plan seen (events_in plan.rate text)

    on : day.state ≡ Open → (fault : _) → unless_faulty fault (taken day) ≡ Ok last
        → ((last ≡ day) × (day.state ≡ Open))
        ⊎ ((p : ℕ) × (if_open last.state (unless_faulty fault (taken last)) ≡ Err (refused_at Overlap plan p)))
    on is (Some fault) h = absurd (cc)
    on is None h = of_events (events_again plan seen (events_in plan.rate text) day last last h (at_once last))
      where
        of_events : ((last ≡ day) × (taken last ≡ Ok last)) ⊎ ((p : ℕ) × (taken last ≡ Err (refused_at Overlap plan p)))
            → ((last ≡ day) × (day.state ≡ Open))
            ⊎ ((p : ℕ) × (if_open last.state (taken last) ≡ Err (refused_at Overlap plan p)))
        of_events (inl same) = inl (same.0, is)
        of_events (inr again) =
            inr (
              again.0,
              ap (λ s. if_open s (taken last))
                  ((all_later plan seen (events_in plan.rate text) day last h).state ∙ is) ∙ again.1,
            )

    by : (s : DayState) → day.state ≡ s
        → if_open s (unless_faulty (first_fault plan.rate ignore text) (taken day)) ≡ Ok last
        → ((last ≡ day) × (day.state ≡ Open))
        ⊎ ((p : ℕ)
        × (if_open last.state (unless_faulty (first_fault plan.rate ignore text) (taken last))
        ≡ Err (refused_at Overlap plan p)))
    by NotThere is h = absurd (cc)
    by Sealed is h = absurd (cc)
    by Open is h = on is (first_fault plan.rate ignore text) h

-- an import leaves the day its number
import_number : (day last : Day) (plan : PlanRow) (seen : SourcesSeen) (ignore : Bool) (text : List ℕ)
    → import_of day plan seen ignore text ≡ Ok last → last.number ≡ day.number
unfolding import_of
import_number day last plan seen ignore text made = by day.state (first_fault plan.rate ignore text) made
  where
    by : (s : DayState) (fault : _)
        → if_open s (unless_faulty fault (after_events day plan seen (events_in plan.rate text))) ≡ Ok last
        → last.number ≡ day.number
    by NotThere fault h = absurd (cc)
    by Sealed fault h = absurd (cc)
    by Open (Some fault) h = absurd (cc)
    by Open None h = (all_later plan seen (events_in plan.rate text) day last h).number

-- no item is left of the number that was taken out
none_left : (n : ℕ) (items : List Item) → find (λ i. i.n == n) (filter (λ i. not (i.n == n)) items) ≡ None
none_left n [] = refl
none_left n (i ∷ is) =
    elim (i.n == n)
    as (λ b. (i.n == n) ≡ b
    → find (λ i. i.n == n) (cond (not b) (i ∷ filter (λ i. not (i.n == n)) is) (filter (λ i. not (i.n == n)) is))
    ≡ None) [
      | true ↦ λ e. none_left n is
      | false ↦ λ e. ap (λ b. cond b (Some i) (find (λ i. i.n == n) (filter (λ i. not (i.n == n)) is))) e
          ∙ none_left n is
    ] refl

-- A command on a day is refused, as done already.
pub record Refuses (plan : PlanRow) (seen : SourcesSeen) (q : DayCommand) (day : Day) : Type 0 where
  pub reply : Reply
  pub says : IsRefusedByOne (day_done q) (Replied reply)
  pub is : day_decision plan day seen q ≡ (reply, Nothing)

-- A revision is done again, and leaves what it left before.
pub record Repeats (plan : PlanRow) (seen : SourcesSeen) (q : DayCommand) (day : Day) (reply : Reply) : Type 0 where
  pub may : (n : ℕ) → may_repeat (commands.Day n q) ≡ true
  pub is : day_decision plan day seen q ≡ (reply, OnDay (changed_day day day))

-- A command changed a day, and once it is done it is refused, or leaves what it left.
pub record ChangesOnce (plan : PlanRow) (seen : SourcesSeen) (q : DayCommand) (day : Day) (d : Decided) : Type 0 where
  pub after : Day
  pub change : d.1 ≡ OnDay (changed_day day after)
  pub number : after.number ≡ day.number
  pub again : Refuses plan seen q after ⊎ Repeats plan seen q after d.0

-- what comes of a command on a day that is done again: it changed nothing, left the day as it is, or changed it once
abbrev pub DayAgain : PlanRow → SourcesSeen → DayCommand → Day → Decided → Type 0
DayAgain plan seen q day d =
    (d.1 ≡ Nothing) ⊎ (((day.state ≡ Open) × (d.1 ≡ OnDay (changed_day day day))) ⊎ ChangesOnce plan seen q day d)

pub day_again : (plan : PlanRow) (seen : SourcesSeen) (day : Day) (q : DayCommand)
    → DayAgain plan seen q day (day_decision plan day seen q)
unfolding day_decision day_sealed
day_again plan seen day days.Open = by day.state
  where
    by : (s : DayState)
        → DayAgain plan seen days.Open day
        (answered (λ n. (replies.Day n, OnDay (changed_day day (record day { state = Open }))))
        (if_not_there s (Ok day.number)))
    by NotThere =
        inr
        (inr
        (record {
          after = record day { state = Open };
          change = refl;
          number = refl;
          again =
              inl (record { reply = replies.Refused (refused DayKnown); says = inl refl; is = refl });
        }))
    by Open = inl refl
    by Sealed = inl refl
day_again plan seen day (days.AddItem at frames source_in mix source) =
    of_said (item_said plan at frames source_in mix source) refl
  where
    q : DayCommand
    q = days.AddItem at frames source_in mix source

    on : (new : NewItem) → item_said plan at frames source_in mix source ≡ Ok new → (r : Result Item Refusal)
        → item_for day plan seen new ≡ r → DayAgain plan seen q day (item_added day r)
    on new is (Err e) made = inl refl
    on new is (Ok item) made = inr (inr (record {
      after = with_item item day;
      change = refl;
      number = refl;
      again = inl (record {
        reply = replies.Refused (refused_at Overlap plan new.pos);
        says = inl refl;
        is = ap (λ s. item_added (with_item item day) (item_of_said (with_item item day) plan seen s)) is
            ∙ ap (item_added (with_item item day)) (item_again day plan seen new item made);
      });
    }))

    of_said : (said : Result NewItem Refusal) → item_said plan at frames source_in mix source ≡ said
        → DayAgain plan seen q day (item_added day (item_of_said day plan seen said))
    of_said (Err e) is = inl refl
    of_said (Ok new) is = on new is (item_for day plan seen new) refl
day_again plan seen day (days.RemoveItem n) = by day.state refl (find (λ i. i.n == n) day.items)
  where
    out : ℕ → Decided
    out m = (replies.Item m, OnDay (changed_day day (without_item n day)))

    by : (s : DayState) → day.state ≡ s → (o : Option Item)
        → DayAgain plan seen (days.RemoveItem n) day (answered out (if_open s (number_of o)))
    by NotThere is o = inl refl
    by Sealed is o = inl refl
    by Open is None = inl refl
    by Open is (Some i) = inr (inr (record {
      after = without_item n day;
      change = refl;
      number = refl;
      again = inl (record {
        reply = replies.Refused (refused NoItem);
        says = inl refl;
        is = ap
            (λ s. answered
            (λ m. (replies.Item m, OnDay (changed_day (without_item n day) (without_item n (without_item n day)))))
            (if_open s (number_of (find (λ i. i.n == n) (without_item n day).items)))) is
            ∙ ap
            (λ o. answered
            (λ m. (replies.Item m, OnDay (changed_day (without_item n day) (without_item n (without_item n day)))))
            (number_of o)) (none_left n day.items);
      });
    }))
day_again plan seen day (days.Revise said) = by (day_revised plan seen said day) refl
  where
    q : DayCommand
    q = days.Revise said

    by : (r : Result Day ItemRefusal) → day_revised plan seen said day ≡ r
        → DayAgain plan seen q day (revision_made said day r)
    by (Err e) made = inl refl
    by (Ok last) made = of_some (says_nothing said) refl
      where
        refuses : (code : Code)
            → ((e : ItemRefusal) → e.refusal.code ≡ code
            → IsRefusedByOne (day_done q) (Replied (replies.ItemRefused e)))
            → HasCode code (day_revised plan seen said last) → Refuses plan seen q last
        refuses code says why =
            record
            { reply = replies.ItemRefused why.0; says = says why.0 why.2; is = ap (revision_made said last) why.1 }

        again : says_nothing said ≡ false → RevisedAgain plan seen said day last
            → Refuses plan seen q last ⊎ Repeats plan seen q last (replies.Revised (counts_said said))
        again some (number, is_open, inl same) = inr (record {
          may = λ n. refl;
          is = ap (revision_made said last) same
              ∙ ap (λ b. (replies.Revised (counts_said said), revision_change b last last)) some;
        })
        again some (number, is_open, inr (inl why)) = inl (refuses NoItem (λ e is. inl is) why)
        again some (number, is_open, inr (inr why)) = inl (refuses Overlap (λ e is. inr (inl is)) why)

        of_some : (b : Bool) → says_nothing said ≡ b
            → DayAgain plan seen q day (replies.Revised (counts_said said), revision_change b day last)
        of_some true none = inl refl
        of_some false some =
            let it = revised_again plan seen said day last some made in
            inr (inr (record { after = last; change = refl; number = it.0; again = again some it }))
day_again plan seen day (days.Import list ignore) = by (import_of day plan seen ignore list) refl
  where
    taken : Day → Day → Decided
    taken before d = (replies.Items (counts_of (events_in plan.rate list)), OnDay (changed_day before d))

    by : (r : Result Day Refusal) → import_of day plan seen ignore list ≡ r
        → DayAgain plan seen (days.Import list ignore) day (answered (taken day) r)
    by (Err e) made = inl refl
    by (Ok last) made = of_last (import_again day last plan seen ignore list made)
      where
        number : last.number ≡ day.number
        number = import_number day last plan seen ignore list made

        of_last : ((last ≡ day) × (day.state ≡ Open))
            ⊎ ((p : ℕ) × (import_of last plan seen ignore list ≡ Err (refused_at Overlap plan p)))
            → DayAgain plan seen (days.Import list ignore) day (taken day last)
        of_last (inl same) = inr (inl (same.1, ap (λ d. OnDay (changed_day day d)) same.0))
        of_last (inr again) = inr (inr (record {
          after = last;
          change = refl;
          number = number;
          again =
              inl
              (record {
                reply = replies.Refused (refused_at Overlap plan again.0);
                says = inl refl;
                is =
                    ap (answered (taken last)) again.1;
              });
        }))
day_again plan seen day days.Seal = by (day_sealed day plan seen)
  where
    by : (r : Result ℕ Refusal)
        → DayAgain plan seen days.Seal day
        (answered (λ n. (replies.Day n, OnDay (changed_day day (record day { state = Sealed })))) r)
    by (Err e) = inl refl
    by (Ok n) =
        inr
        (inr
        (record {
          after = record day { state = Sealed };
          change = refl;
          number = refl;
          again =
              inl (record { reply = replies.Refused (refused DaySealed); says = inl refl; is = refl });
        }))
day_again plan seen day days.WritePlan = by (table_of_day plan day)
  where
    by : (r : Result (List ℕ) Refusal) → DayAgain plan seen days.WritePlan day (written r)
    by (Err e) = inl refl
    by (Ok text) = inl refl
day_again plan seen day days.ExportList = by (exported day plan seen)
  where
    by : (r : Result (List ℕ) Refusal) → DayAgain plan seen days.ExportList day (written r)
    by (Err e) = inl refl
    by (Ok text) = inl refl
