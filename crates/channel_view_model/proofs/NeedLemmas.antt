-- What is decided of a part, and a table that is written, are decided of what the channel sees.
use Rattle.std.proofs.Common.{◌≡◌, ℕ, List, [], ◌∷◌, true, ◌&&◌, refl, sym, ◌∙◌, ap, subst, arith}
use Rattle.std.specs.Prelude.{find}
use Rattle.vault_core.specs.declared.clip.Clip.{Clip}
use Rattle.grant_core.specs.declared.grant.Grant.{Grant}
use Rattle.std.specs.Prelude.{Option, Some, None, is_some, IfSome}
use Rattle.std.specs.Io.KnownBytes.{Appends}
use Rattle.std.specs.Option.{option_map}
use Rattle.std.specs.List.{All, cons_option, filter_map, slice_split}
use Rattle.std.proofs.lemmas.List.Elements.{All-nil, All-cons, All-head, All-tail}
use Rattle.edl.specs.Text.{is_blank}
use Rattle.channel_view_model.specs.declared.need.Need.{Need}
use Rattle.channel_view_model.specs.declared.view.View.{View}
use Rattle.channel_view_model.specs.declared.part.Part.{Part}
use Rattle.channel_view_model.specs.declared.table.Table.{Table}
use Rattle.channel_view_model.specs.declared.command.Command.TheVariants as commands
use Rattle.channel_view_model.specs.declared.command.Reply.TheVariants as replies
use Rattle.channel_view_model.specs.declared.command.Change.TheVariants.{Nothing, Day as OnDay}
use Rattle.vault_core.specs.Questions.{listed}
use Rattle.channel_view_model.specs.Seen.{seen_in, sources_seen}
use Rattle.channel_view_model.specs.Decide.{decision, day_decision, airing_decision, answered, numbers_in_range}
use Rattle.channel_view_model.specs.Decide.{item_added, revision_made, written}
use Rattle.std.specs.Prelude.{◌==◌, if◌then◌else◌}
use Rattle.channel_plan.specs.declared.plan.PlanRow.{PlanRow}
use Rattle.channel_plan.specs.declared.refusal.Code.TheVariants.{NoDay}
use Rattle.channel_plan.specs.Refusal.{refused}
use Rattle.playlist_core.specs.declared.source.Source.{Source}
use Rattle.playlist_core.specs.declared.source.Source.TheVariants.{Black, Bars, Own as OwnClip, Lent as LentClip}
use Rattle.playlist_core.specs.Source.{SourcesSeen, source_of_reel, seen_of, found, of_clip, of_grant}
use Rattle.playlist_core.specs.declared.item.Item.{Item}
use Rattle.playlist_core.specs.declared.day.DayState.TheVariants.{Sealed}
use Rattle.playlist_core.specs.Difference.{changed_day}
use Rattle.playlist_core.specs.Day.{Day}
use Rattle.playlist_edl.specs.Importing.{counts_of, events_in}
use Rattle.channel_view_model.specs.declared.day_command.DayCommand.{DayCommand}
use Rattle.channel_view_model.specs.declared.day_command.DayCommand.TheVariants as days
use Rattle.asrun_match.specs.declared.day.DayAsRun.{DayAsRun}
use Rattle.asrun_match.specs.Aired.{Airing}
use Rattle.channel_view_model.specs.declared.command.AiringCommand.{AiringCommand}
use Rattle.channel_view_model.specs.Airings.{no_airing, airing_or, airing_at}
use Rattle.channel_view_model.specs.Days.{is_day_number, no_day, day_or, day_at, frame_named, item_said}
use Rattle.channel_view_model.specs.TableText.{text_at}
use Rattle.channel_view_model.specs.declared.need.SourcesAsked.{SourcesAsked}
use Rattle.channel_view_model.specs.declared.need.SourcesAsked.TheVariants as asking
use Rattle.channel_view_model.specs.Need.{IsPartOf, IsFetched, AreSourceAnswers, IsDayAnswer, IsAiringAnswer}
use Rattle.channel_view_model.specs.Need.{one_source, sources_asked, sources_said, sources_of, clips_of, grants_of}
use Rattle.channel_view_model.specs.Need.{items_asked, items_in}
use Rattle.channel_view_model.proofs.NamedLemmas.{passes}
use Rattle.channel_view_model.proofs.AlikeLemmas.{exported_alike, imported_alike, item_said_alike, revised_alike}
use Rattle.channel_view_model.proofs.AlikeLemmas.{says_alike, sealed_alike}

module _ {X : Type 0} (f : View → X) (need : Need) where
  pub none_fetched : (view : Option View) → IsFetched need view None → None ≡ option_map f view
  none_fetched None is = refl
  none_fetched (Some v) is = absurd is

  pub some_fetched : (view : Option View) (part : Part) (x : X) → IsFetched need view (Some part)
      → ((v : View) → IsPartOf need v part → x ≡ f v) → Some x ≡ option_map f view
  some_fetched None part x is by = absurd is
  some_fetched (Some v) part x is by = ap Some (by v is)

-- the same clip or lent clip is found for each source that is asked for, of a day of these items, or of these sources
abbrev pub AreFoundAlike : SourcesAsked → List Item → List Source → SourcesSeen → SourcesSeen → Type 0
AreFoundAlike asking.Nothing items named seen part = Unit {0}
AreFoundAlike (asking.One source) items named seen part = found part source ≡ found seen source
AreFoundAlike asking.OfItems items named seen part = All (λ i. found part i.src ≡ found seen i.src) items
AreFoundAlike asking.Named items named seen part = All (λ s. found part s ≡ found seen s) named

-- what is so of the sources of items is so of each item, and so with those that are read
each_item : (P : Source → Type 0) (items : List Item) → All P (sources_of items) → All (λ i. P i.src) items
each_item P [] all = All-nil (λ (i : Item). P i.src)
each_item P (i ∷ is) all =
    All-cons (λ x. P x.src) i is (All-head P i.src (sources_of is) all)
    (each_item P is (All-tail P i.src (sources_of is) all))

each_read : {X : Type 0} (read : X → Option Source) (P : Source → Type 0) (xs : List X) → All P (filter_map read xs)
    → All (λ x. IfSome (read x) P) xs
each_read {X = X} read P [] all = All-nil (λ (x : X). IfSome (read x) P)
each_read read P (x ∷ xs) all =
    let both = by (read x) (filter_map read xs) all in
    All-cons (λ y. IfSome (read y) P) x xs both.0 (each_read read P xs both.1)
  where
    by : (o : Option Source) (sources : List Source) → All P (cons_option o sources) → IfSome o P × All P sources
    by None sources all = (tt, all)
    by (Some s) sources all = (All-head P s sources all, All-tail P s sources all)

-- what is decided of a part's sources is decided of all that are seen
module _ (plan : PlanRow) (day : Day) (seen part : SourcesSeen) where
  abbrev IsFound : Source → Type 0
  IsFound s = found part s ≡ found seen s

  one_alike : (o : Option Source) (named : List Source) → AreFoundAlike (one_source o) day.items named seen part
      → IfSome o IsFound
  one_alike None named same = tt
  one_alike (Some s) named same = same

  pub day_decision-part : (q : DayCommand) → AreFoundAlike (sources_asked q) day.items (sources_said q) seen part
      → day_decision plan day part q ≡ day_decision plan day seen q
  unfolding day_decision
  day_decision-part days.Open same = refl
  day_decision-part (days.AddItem at frames source_in mix source) same =
      ap (item_added day)
      (item_said_alike plan seen part day (item_said plan at frames source_in mix source)
      (says_alike plan seen part frames mix source (frame_named plan at) (frame_named plan source_in)
      (one_alike (source_of_reel source) [] same)))
  day_decision-part (days.RemoveItem n) same = refl
  day_decision-part (days.Revise said) same =
      ap (revision_made said day)
      (revised_alike plan seen part said day
      (each_read (λ i. source_of_reel i.source) IsFound said.add same))
  day_decision-part (days.Import list ignore) same =
      ap
      (answered (λ d. (replies.Items (counts_of (events_in plan.rate list)), OnDay (changed_day day d))))
      (imported_alike plan seen part day ignore list
      (each_read source_of_reel IsFound (slice_split is_blank list) same))
  day_decision-part days.Seal same =
      ap (answered (λ n. (replies.Day n, OnDay (changed_day day (record day { state = Sealed })))))
      (sealed_alike plan seen part day same)
  day_decision-part days.WritePlan same = refl
  day_decision-part days.ExportList same = ap written (exported_alike plan seen part day same)

-- A table that is written is what is decided of the command that asks for it.
pub table_decided : (table : Table) (text : List ℕ) (view : Option View) → true ≡ is_some view
    → Appends (Some []) (Some text) (text_at table view)
    → Some (replies.Table text, Nothing) ≡ option_map (λ v. decision (seen_in v) (commands.Table table)) view
unfolding decision
table_decided table text None there written = cc
table_decided table text (Some v) there written = ap (λ t. Some (replies.Table t, Nothing)) written

-- just what was found is found again
clip_again : (n : ℕ) (clips : List Clip) (o : Option Clip) → find (λ k. k.n == n) clips ≡ o
    → find (λ k. k.n == n) (clips_of (of_clip o)) ≡ o
clip_again n clips None is = refl
clip_again n clips (Some k) is = let its = passes (λ (k : Clip). k.n == n) clips k is in grind (arith, its)

grant_again : (owner n : ℕ) (grants : List Grant) (o : Option Grant)
    → find (λ g. g.owner == owner && g.offer.n == n) grants ≡ o
    → find (λ g. g.owner == owner && g.offer.n == n) (grants_of (of_grant o)) ≡ o
grant_again owner n grants None is = refl
grant_again owner n grants (Some g) is =
    let its = passes (λ (g : Grant). g.owner == owner && g.offer.n == n) grants g is in grind (arith, its)

pub found_again : (clips : List Clip) (grants : List Grant) (source : Source)
    → found (seen_of (clips_of (found (seen_of clips grants) source)) (grants_of (found (seen_of clips grants) source)))
    source ≡ found (seen_of clips grants) source
found_again clips grants Black = refl
found_again clips grants Bars = refl
found_again clips grants (OwnClip n) = ap of_clip (clip_again n clips (find (λ k. k.n == n) clips) refl)
found_again clips grants (LentClip owner n) =
    ap of_grant (grant_again owner n grants (find (λ g. g.owner == owner && g.offer.n == n) grants) refl)

-- what is asked for is found in the part as among all that are seen
found_alike : (asked : SourcesAsked) (items : List Item) (named : List Source) (clips part_clips : List Clip)
    (grants part_grants : List Grant)
    → AreSourceAnswers asked items named clips grants part_clips part_grants
    → AreFoundAlike asked items named (seen_of clips grants) (seen_of part_clips part_grants)
found_alike asking.Nothing items named clips part_clips grants part_grants are = tt
found_alike (asking.One source) items named clips part_clips grants part_grants are =
    (λ i. found (seen_of (are.0 i) (are.1 i)) source) ∙ found_again clips grants source
found_alike asking.OfItems items named clips part_clips grants part_grants are =
    each_item (λ s. found (seen_of part_clips part_grants) s ≡ found (seen_of clips grants) s) items are.named
found_alike asking.Named items named clips part_clips grants part_grants are = are.named

-- a day that isn't among those that are seen
pub not_there_is : (view : View) (n number : ℕ) (plan : PlanRow) (day : Day) → number ≡ n → plan ≡ view.own.plan
    → day ≡ no_day plan number → find (λ d. d.number == number) view.days ≡ None
    → IsDayAnswer (Some n) view.own.plan (listed view.days) (Some day)
not_there_is view n number plan day same its made none =
    ap Some (made ∙ ap (λ p. no_day p number) its ∙ ap (no_day view.own.plan) same
    ∙ ap (day_or (no_day view.own.plan n)) (sym (ap (λ m. find (λ d. d.number == m) view.days) (sym same) ∙ none)))

-- what is decided of a part is decided of all that is seen
pub asked_of_part : (view : View) (part : Part) (n : ℕ) (q : DayCommand) (named : List Source) (day : Day)
    → named ≡ sources_said q → numbers_in_range n q ≡ true → part.day ≡ Some day → part.plan ≡ (seen_in view).own.plan
    → IsDayAnswer (Some n) (seen_in view).own.plan (seen_in view).days part.day
    → AreSourceAnswers (sources_asked q) (items_asked None part.day) named view.own.clips view.lent
    part.sources.clips.items part.sources.grants.items
    → day_decision part.plan day (seen_of part.sources.clips.items part.sources.grants.items) q
    ≡ decision (seen_in view) (commands.Day n q)
unfolding decision
asked_of_part view part n q named day its asked there plan is sources =
    let same : day ≡ day_at view.own.plan (seen_in view).days n = some_same (sym there ∙ is) in
    day_decision-part part.plan day (sources_seen (seen_in view))
    (seen_of part.sources.clips.items part.sources.grants.items) q
    (found_alike (sources_asked q) day.items (sources_said q) view.own.clips part.sources.clips.items view.lent
    part.sources.grants.items
    (subst
    (λ sources. AreSourceAnswers (sources_asked q) day.items sources view.own.clips view.lent part.sources.clips.items
    part.sources.grants.items) its
    (subst
    (λ o. AreSourceAnswers (sources_asked q) (items_in o) named view.own.clips view.lent part.sources.clips.items
    part.sources.grants.items) there sources)))
    ∙ ap (λ p. day_decision p day (sources_seen (seen_in view)) q) plan
    ∙ ap (λ d. day_decision view.own.plan d (sources_seen (seen_in view)) q) same
    ∙ ap
    (λ b. if b
    then day_decision view.own.plan (day_at view.own.plan (seen_in view).days n) (sources_seen (seen_in view)) q
    else (replies.Refused (refused NoDay), Nothing)) (sym asked)
  where
    some_same : {x y : Day} → Some x ≡ Some y → x ≡ y
    some_same e = cc

-- what was aired of a day for which nothing is there
pub not_aired_is : (view : View) (n number : ℕ) (plan : PlanRow) (airing : Airing) → number ≡ n → plan ≡ view.own.plan
    → airing ≡ no_airing plan → find (λ a. a.day == number) view.aired ≡ None
    → IsAiringAnswer (Some n) view.own.plan (listed view.aired) (Some airing)
not_aired_is view n number plan airing same its made none =
    ap Some
    (made ∙ ap no_airing its
    ∙ ap (airing_or view.own.plan) (sym (ap (λ m. find (λ a. a.day == m) view.aired) (sym same) ∙ none)))

-- and of one for which something is
pub aired_is : (view : View) (n number : ℕ) (a : DayAsRun) (copy : Airing) → number ≡ n → copy ≡ a.aired
    → find (λ x. x.day == number) view.aired ≡ Some a
    → IsAiringAnswer (Some n) view.own.plan (listed view.aired) (Some copy)
aired_is view n number a copy same copied some =
    ap Some
    (copied ∙ ap (airing_or view.own.plan) (sym (ap (λ m. find (λ x. x.day == m) view.aired) (sym same) ∙ some)))

-- what is decided of a part's day and what was aired of it
pub airing_of_part : (view : View) (part : Part) (n : ℕ) (q : AiringCommand) (day : Day) (airing : Airing)
    → is_day_number n ≡ true → part.day ≡ Some day → part.aired ≡ Some airing → part.plan ≡ (seen_in view).own.plan
    → IsDayAnswer (Some n) (seen_in view).own.plan (seen_in view).days part.day
    → IsAiringAnswer (Some n) (seen_in view).own.plan (seen_in view).aired part.aired
    → airing_decision part.plan day airing q ≡ decision (seen_in view) (commands.Airing n q)
unfolding decision
airing_of_part view part n q day airing asked there aired plan day_is airing_is =
    let same : day ≡ day_at view.own.plan (seen_in view).days n = some_same (sym there ∙ day_is) in
    let same_aired : airing ≡ airing_at view.own.plan (seen_in view).aired n = some_same (sym aired ∙ airing_is) in
    ap (λ p. airing_decision p day airing q) plan
    ∙ ap (λ d. airing_decision view.own.plan d airing q) same
    ∙ ap (λ a. airing_decision view.own.plan (day_at view.own.plan (seen_in view).days n) a q) same_aired
    ∙ ap
    (λ b. if b
    then airing_decision view.own.plan (day_at view.own.plan (seen_in view).days n)
    (airing_at view.own.plan (seen_in view).aired n) q else (replies.Refused (refused NoDay), Nothing)) (sym asked)
  where
    some_same : {X : Type 0} {x y : X} → Some x ≡ Some y → x ≡ y
    some_same e = cc
