-- What is decided of a day's items, or of those that a command says, where what each of them names is found alike.
use Rattle.std.proofs.Common.{◌≡◌, ℕ, ◌+◌, List, [], ◌∷◌, ◌++◌, Bool, cond, refl, ap, ◌∙◌}
use Rattle.std.specs.Prelude.{find, Option, Some, None, Result, Ok, Err, IfSome, IfOk, ◌==◌, nat_lt, if◌then◌else◌}
use Rattle.std.specs.List.{All, Contains, cons_option, slice_split}
use Rattle.std.proofs.lemmas.List.Elements.{All-head, All-tail, All-weaker, All-contains}
use Rattle.channel_plan.specs.declared.plan.PlanRow.{PlanRow}
use Rattle.channel_plan.specs.declared.refusal.Refusal.{Refusal}
use Rattle.channel_plan.specs.declared.refusal.Code.TheVariants.{EmptyItem, MixLong, PastDayEnd, SpeedEvent, WholeDay}
use Rattle.channel_plan.specs.Refusal.{refused}
use Rattle.edl.specs.Text.{is_blank}
use Rattle.edl.specs.Entry.{EventEntry}
use Rattle.edl.specs.Faults.{first_fault}
use Rattle.edl.specs.Written.{list_text}
use Rattle.playlist_core.specs.declared.item.EditKind.{EditKind}
use Rattle.playlist_core.specs.declared.item.EditKind.TheVariants.{Cut}
use Rattle.playlist_core.specs.declared.item.Item.{Item}
use Rattle.playlist_core.specs.declared.item.NewItem.{NewItem}
use Rattle.playlist_core.specs.declared.source.Source.{Source}
use Rattle.playlist_core.specs.declared.source.Source.TheVariants.{Black, Bars, Own as OwnClip, Lent as LentClip}
use Rattle.playlist_core.specs.Item.{kind_of}
use Rattle.playlist_core.specs.Source.{SourcesSeen, found, source_of_reel, source_reel}
use Rattle.playlist_core.specs.Picture.{first_empty, first_painted}
use Rattle.playlist_core.specs.Day.{Day, day_sealed, if_open, is_barred, is_outside, is_recalled, is_withdrawn}
use Rattle.playlist_core.specs.Day.{picture_in, unless_empty, unless_outside, unless_recalled, row_fault, unless}
use Rattle.playlist_core.specs.Day.{unless_taken, with_number, free_number, item_of, item_in, item_for}
use Rattle.playlist_edl.specs.Importing.{after_events, day_after, events_in, go_on, import_of, is_skipped, item_of_kind}
use Rattle.playlist_edl.specs.Importing.{new_of, unless_faulty, with_taken}
use Rattle.playlist_edl.specs.Exporting.{exported, if_there, has_whole_day, title_text, lines_from, item_line, cut_line}
use Rattle.playlist_edl.specs.Exporting.{zero_cut, notes_of, note_text, row_title, unless_cut, item_ending}
use Rattle.playlist_edl.specs.Exporting.{outgoing_of}
use Rattle.playlist_edl.proofs.ExportLemmas.{found_has}
use Rattle.channel_view_model.specs.Days.{frame_named, item_at, item_said, item_of_said}
use Rattle.channel_view_model.specs.declared.revision.ItemRefusal.{ItemRefusal}
use Rattle.channel_view_model.specs.declared.revision.SaidItem.{SaidItem}
use Rattle.channel_view_model.specs.Revision.{SaidRevision}
use Rattle.channel_view_model.specs.Revising.{and_then, at_place, day_revised, day_with, day_without, in_turn}
use Rattle.channel_view_model.specs.Revising.{kind_said}
use Rattle.channel_view_model.specs.Revising.{new_said, of_kind, put_in}
use Rattle.channel_view_model.proofs.ReelLemmas.{reels_are_words}

-- of two tests that agree of each row, both find the same first
find_agree : {R : Type 0} (p q : R → Bool) (rows : List R) → All (λ r. p r ≡ q r) rows → find p rows ≡ find q rows
find_agree p q [] agree = refl
find_agree p q (r ∷ rs) agree =
    let first : p r ≡ q r = All-head (λ x. p x ≡ q x) r rs agree in
    let rest = find_agree p q rs (All-tail (λ x. p x ≡ q x) r rs agree) in
    λ j. cond (first j) (Some r) (rest j)

module _ (plan : PlanRow) (seen part : SourcesSeen) where
  -- what a source names, or what an item does, or a reel, if it names one
  abbrev pub IsFoundAlike : Source → Type 0
  IsFoundAlike s = found part s ≡ found seen s

  abbrev pub IsNamedAlike : Item → Type 0
  IsNamedAlike i = IsFoundAlike i.src

  abbrev pub IsReelAlike : List ℕ → Type 0
  IsReelAlike reel = IfSome (source_of_reel reel) IsFoundAlike

  pub sealed_alike : (day : Day) → All IsNamedAlike day.items → day_sealed day plan part ≡ day_sealed day plan seen
  unfolding day_sealed
  sealed_alike day alike =
      let recalled =
      find_agree (is_recalled part) (is_recalled seen) day.items
      (All-weaker IsNamedAlike (λ i. is_recalled part i ≡ is_recalled seen i) (λ i same. ap is_withdrawn same)
      day.items alike) in
      let outside =
      find_agree (is_outside part day.number) (is_outside seen day.number) day.items
      (All-weaker IsNamedAlike (λ i. is_outside part day.number i ≡ is_outside seen day.number i)
      (λ i same. ap (is_barred day.number) same) day.items alike) in
      λ j. if_open day.state
      (unless_recalled (recalled j)
      (unless_outside (outside j) (unless_empty plan (first_empty (picture_in day)) (Ok day.number))))

  -- a line has the title of what its item names
  item_line_alike : (n : ℕ) (i : Item) → IsNamedAlike i → item_line plan part n i ≡ item_line plan seen n i
  item_line_alike n i same =
      ap (λ row. record (item_line plan part n i) { notes = notes_of (note_text i.kind (row_title row)) }) same

  cut_line_alike : (n p : ℕ) (o : Option Item) → IfSome o IsNamedAlike
      → cut_line plan part n p o ≡ cut_line plan seen n p o
  cut_line_alike n p None alike = refl
  cut_line_alike n p (Some b) alike =
      ap
      (λ row. zero_cut plan n p (source_reel b.src) (b.src_first + b.frames) (notes_of (note_text Cut (row_title row))))
      alike

  lines_alike : (all : List Item) (n : ℕ) (items : List Item) → All IsNamedAlike all → All IsNamedAlike items
      → lines_from plan part all n items ≡ lines_from plan seen all n items
  lines_alike all n [] among alike = refl
  lines_alike all n (i ∷ is) among alike =
      let ending = found_has IsNamedAlike (λ b. b.pos + b.frames == i.pos) all among in
      let outgoing : outgoing_of plan part all n i ≡ outgoing_of plan seen all n i =
      ap (unless_cut i.kind) (cut_line_alike n i.pos (item_ending all i.pos) ending) in
      let line = item_line_alike n i (All-head IsNamedAlike i is alike) in
      let rest = lines_alike all (n + 1) is among (All-tail IsNamedAlike i is alike) in
      λ j. cons_option (outgoing j) (line j ∷ []) ++ rest j

  pub exported_alike : (day : Day) → All IsNamedAlike day.items → exported day plan part ≡ exported day plan seen
  unfolding exported
  exported_alike day alike =
      ap
      (λ lines. if_there day.state
      (if has_whole_day day then Err (refused WholeDay)
      else Ok (list_text (title_text plan.ch day.number) plan.rate lines)))
      (lines_alike day.items 1 day.items alike alike)

  -- ---- an item that a day takes

  abbrev rest_of : Day → NewItem → Source → Result Item Refusal
  rest_of day new source =
      if nat_lt new.frames new.mix then Err (refused MixLong) else
      unless_taken plan (first_painted new.pos new.frames (picture_in day))
      (with_number (free_number day.items) source new)

  item_of_alike : (day : Day) (new : NewItem) (o : Option Source) → IfSome o IsFoundAlike
      → item_of day plan part new o ≡ item_of day plan seen new o
  item_of_alike day new None same = refl
  item_of_alike day new (Some Black) same = refl
  item_of_alike day new (Some Bars) same = refl
  item_of_alike day new (Some (OwnClip n)) same =
      ap (λ row. unless (row_fault plan day.number new row) (rest_of day new (OwnClip n))) same
  item_of_alike day new (Some (LentClip owner n)) same =
      ap (λ row. unless (row_fault plan day.number new row) (rest_of day new (LentClip owner n))) same

  item_in_alike : (day : Day) (new : NewItem) → IfSome new.src IsFoundAlike
      → item_in day plan part new ≡ item_in day plan seen new
  unfolding item_in
  item_in_alike day new same =
      ap (λ r. if nat_lt day.frames (new.pos + new.frames) then Err (refused PastDayEnd) else r)
      (item_of_alike day new new.src same)

  item_for_alike : (day : Day) (new : NewItem) → IfSome new.src IsFoundAlike
      → item_for day plan part new ≡ item_for day plan seen new
  unfolding item_for
  item_for_alike day new same =
      ap (λ r. if_open day.state (if new.frames == 0 then Err (refused EmptyItem) else r)) (item_in_alike day new same)

  -- one that is said has the source that its reel names
  abbrev SaysAlike : Result NewItem Refusal → Type 0
  SaysAlike r = IfOk r (λ new. IfSome new.src IsFoundAlike)

  pub item_said_alike : (day : Day) (r : Result NewItem Refusal) → SaysAlike r
      → item_of_said day plan part r ≡ item_of_said day plan seen r
  item_said_alike day (Ok new) same = item_for_alike day new same
  item_said_alike day (Err e) same = refl

  pub says_alike : (frames mix : ℕ) (source : List ℕ) (at first : Result ℕ Refusal) → IsReelAlike source
      → SaysAlike (item_at plan frames mix source at first)
  says_alike frames mix source (Err e) first same = tt
  says_alike frames mix source (Ok at) (Err e) same = tt
  says_alike frames mix source (Ok at) (Ok first) same = same

  -- ---- a revision

  kind_alike : (kind : EditKind) (r : Result NewItem Refusal) → SaysAlike r → SaysAlike (of_kind kind r)
  kind_alike kind (Ok new) same = same
  kind_alike kind (Err e) same = tt

  with_alike : (said : SaidItem) (day : Day) → IsReelAlike said.source
      → day_with plan part said day ≡ day_with plan seen said day
  with_alike said day same =
      ap (put_in day)
      (item_said_alike day (new_said plan said)
      (kind_alike (kind_said said.wipe said.mix)
      (item_said plan said.at said.frames said.source_in said.mix said.source)
      (says_alike said.frames said.mix said.source (frame_named plan said.at) (frame_named plan said.source_in) same)))

  then_alike : (r : Result Day ItemRefusal) (f g : Day → Result Day ItemRefusal) → ((d : Day) → f d ≡ g d)
      → and_then r f ≡ and_then r g
  then_alike (Ok d) f g same = same d
  then_alike (Err e) f g same = refl

  in_turn_alike : (k : ℕ) (said : List SaidItem) → All (λ i. IsReelAlike i.source) said → (day : Day)
      → in_turn (day_with plan part) k said day ≡ in_turn (day_with plan seen) k said day
  in_turn_alike k [] alike day = refl
  in_turn_alike k (i ∷ is) alike day =
      ap (λ r. and_then (at_place k r) (in_turn (day_with plan part) (k + 1) is))
      (with_alike i day (All-head (λ x. IsReelAlike x.source) i is alike))
      ∙ then_alike (at_place k (day_with plan seen i day)) (in_turn (day_with plan part) (k + 1) is)
      (in_turn (day_with plan seen) (k + 1) is)
      (in_turn_alike (k + 1) is (All-tail (λ x. IsReelAlike x.source) i is alike))

  pub revised_alike : (said : SaidRevision) (day : Day) → All (λ i. IsReelAlike i.source) said.add
      → day_revised plan part said day ≡ day_revised plan seen said day
  unfolding day_revised
  revised_alike said day alike =
      then_alike (in_turn day_without 1 said.remove day) (in_turn (day_with plan part) 1 said.add)
      (in_turn (day_with plan seen) 1 said.add) (in_turn_alike 1 said.add alike)

  -- ---- an import

  event_item_alike : (day : Day) (event : EventEntry) (o : Option EditKind) → IsReelAlike event.reel
      → item_of_kind day plan part event o ≡ item_of_kind day plan seen event o
  event_item_alike day event None same = refl
  event_item_alike day event (Some kind) same =
      ap (λ r. if event.speed then Err (refused SpeedEvent) else r)
      (item_in_alike day (new_of plan event kind) same)

  event_alike : (day : Day) (event : EventEntry) → IsReelAlike event.reel
      → day_after day plan part event ≡ day_after day plan seen event
  unfolding day_after
  event_alike day event same =
      ap (λ r. if is_skipped event then Ok day else with_taken event.line day r)
      (event_item_alike day event (kind_of event.kind) same)

  go_on_alike : (r : Result Day Refusal) (f g : Day → Result Day Refusal) → ((d : Day) → f d ≡ g d)
      → go_on r f ≡ go_on r g
  go_on_alike (Ok d) f g same = same d
  go_on_alike (Err e) f g same = refl

  events_alike : (events : List EventEntry) → All (λ e. IsReelAlike e.reel) events → (day : Day)
      → after_events day plan part events ≡ after_events day plan seen events
  events_alike [] alike day = refl
  events_alike (e ∷ es) alike day =
      ap (λ r. go_on r (λ next. after_events next plan part es))
      (event_alike day e (All-head (λ x. IsReelAlike x.reel) e es alike))
      ∙ go_on_alike (day_after day plan seen e) (λ next. after_events next plan part es)
      (λ next. after_events next plan seen es)
      (events_alike es (All-tail (λ x. IsReelAlike x.reel) e es alike))

  -- the reel of each event is a word of the text
  pub imported_alike : (day : Day) (ignore : Bool) (text : List ℕ) → All IsReelAlike (slice_split is_blank text)
      → import_of day plan part ignore text ≡ import_of day plan seen ignore text
  unfolding import_of
  imported_alike day ignore text alike =
      ap (λ r. if_open day.state (unless_faulty (first_fault plan.rate ignore text) r))
      (events_alike (events_in plan.rate text)
      (All-weaker (λ e. Contains (slice_split is_blank text) e.reel) (λ e. IsReelAlike e.reel)
      (λ e within. All-contains IsReelAlike (slice_split is_blank text) e.reel alike within)
      (events_in plan.rate text) (reels_are_words plan.rate text)) day)
