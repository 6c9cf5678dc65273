-- What a command needs of the rows that its channel sees, and the part of them that holds this.
use Rattle.std.specs.Prelude.{◌≡◌, ℕ, List, [], ◌∷◌, Bool, true, false, Option, Some, None, ◌⊎◌, map}
use Rattle.std.specs.Borrow.{Bor}
use Rattle.std.specs.Option.{option_map}
use Rattle.std.specs.List.{All as Each, Contains, filter_map, slice_split}
use Rattle.std.proofs.Common.{inl, inr}
use Rattle.vault_core.specs.declared.clip.Clip.{Clip}
use Rattle.grant_core.specs.declared.grant.Grant.{Grant}
use Rattle.std.specs.Bool.{⊤}
use Rattle.edl.specs.Text.{is_blank}
use Rattle.vault_core.specs.Asked.{nothing_asked, AreTapeAnswers, no_clips_asked, AreClipAnswers}
use Rattle.vault_core.specs.Asked.{tapes_asked, tapes_asked_for_clips, clips_asked}
use Rattle.channel_view_model.specs.declared.need.Need.{Need}
use Rattle.channel_view_model.specs.declared.view.View.{View}
use Rattle.channel_view_model.specs.declared.part.Part.{Part}
use Rattle.channel_view_model.specs.declared.command.Command.{Command}
use Rattle.channel_view_model.specs.declared.command.Command.TheVariants as commands
use Rattle.channel_view_model.specs.declared.command.VaultCommand.{VaultCommand}
use Rattle.channel_view_model.specs.declared.command.VaultCommand.TheVariants as asks
use Rattle.grant_core.specs.Asked.{no_offers_asked, AreOfferAnswers, clips_asked_for_offers, offers_asked}
use Rattle.playlist_core.specs.declared.source.Source.{Source}
use Rattle.playlist_core.specs.Source.{found, seen_of, source_of_reel}
use Rattle.playlist_core.specs.declared.item.Item.{Item}
use Rattle.playlist_core.specs.Day.{Day}
use Rattle.vault_core.specs.declared.asked_tapes.TapesAsked.{TapesAsked}
use Rattle.vault_core.specs.declared.asked_clips.ClipsAsked.{ClipsAsked}
use Rattle.grant_core.specs.declared.asked_offers.OffersAsked.{OffersAsked}
use Rattle.channel_view_model.specs.declared.need.SourcesAsked.{SourcesAsked}
use Rattle.channel_view_model.specs.declared.need.SourcesAsked.TheVariants.{Nothing, One, OfItems, Named}
use Rattle.channel_view_model.specs.declared.day_command.DayCommand.{DayCommand}
use Rattle.channel_view_model.specs.declared.day_command.DayCommand.TheVariants as days
use Rattle.asrun_match.specs.declared.day.DayAsRun.{DayAsRun}
use Rattle.asrun_match.specs.Aired.{Airing}
use Rattle.channel_view_model.specs.Days.{day_at}
use Rattle.channel_view_model.specs.Airings.{airing_at}
use Rattle.channel_plan.specs.declared.plan.PlanRow.{PlanRow}
use Rattle.vault_core.specs.Questions.{Questions}
use Rattle.channel_view_model.specs.Seen.{seen_in}

-- questions of own rows alone
abbrev pub of_own : TapesAsked → ClipsAsked → OffersAsked → Need
of_own tapes clips offers =
    record {
      tapes = tapes;
      clips = clips;
      offers = offers;
      day = None;
      items = None;
      aired = None;
      sources = Nothing;
      named = None;
    }

-- what each command on own rows asks
abbrev pub own_need : VaultCommand → Need
own_need (asks.Tape q) = of_own (tapes_asked q) no_clips_asked no_offers_asked
own_need (asks.Clip q) = of_own (tapes_asked_for_clips q) (clips_asked q) no_offers_asked
own_need (asks.Offer q) = of_own nothing_asked (clips_asked_for_offers q) (offers_asked q)

-- a command is decided by a part; a table is written from all rows of a kind
abbrev pub asks_a_part : Command → Bool
asks_a_part (commands.Vault q) = true
asks_a_part (commands.Day n q) = true
asks_a_part (commands.Airing n q) = true
asks_a_part commands.PlanRow = true
asks_a_part (commands.Table table) = false

-- the sources that words of a text name: so each reel of a list's events
abbrev pub sources_in : List ℕ → List Source
sources_in text = filter_map source_of_reel (slice_split is_blank text)

-- the sources that a command on a day names, where it may name many: those of a revision's items, and those in a list
abbrev pub sources_said : DayCommand → List Source
sources_said (days.Revise said) = filter_map (λ i. source_of_reel i.source) said.add
sources_said (days.Import list ignore) = sources_in list
sources_said _ = []

abbrev pub sources_named : Command → List Source
sources_named (commands.Day n q) = sources_said q
sources_named _ = []

-- which of the clips and the lent clips a command on a day asks for
abbrev pub one_source : Option Source → SourcesAsked
one_source None = Nothing
one_source (Some source) = One source

abbrev pub sources_asked : DayCommand → SourcesAsked
sources_asked days.Open = Nothing
sources_asked (days.AddItem at frames source_in mix source) = one_source (source_of_reel source)
sources_asked (days.RemoveItem n) = Nothing
sources_asked (days.Revise said) = Named
sources_asked (days.Import list ignore) = Named
sources_asked days.Seal = OfItems
sources_asked days.WritePlan = Nothing
sources_asked days.ExportList = OfItems

-- what each command on what was aired of a day asks
abbrev pub airing_need : ℕ → Need
airing_need n = record (of_own nothing_asked no_clips_asked no_offers_asked) { day = Some n; aired = Some n }

-- the need of a command that names these sources
abbrev pub need_of : Command → Bor (List Source) → Need
need_of (commands.Vault q) named = own_need q
need_of (commands.Day n q) named =
    record (of_own nothing_asked no_clips_asked no_offers_asked) {
      day = Some n;
      sources = sources_asked q;
      named = Some named;
    }
need_of (commands.Airing n q) named = airing_need n
need_of commands.PlanRow named = of_own nothing_asked no_clips_asked no_offers_asked
need_of (commands.Table table) named = of_own nothing_asked no_clips_asked no_offers_asked

-- just the clip, or just the lent clip, that was found
abbrev pub clips_of : Option (Clip ⊎ Grant) → List Clip
clips_of None = []
clips_of (Some (inl k)) = k ∷ []
clips_of (Some (inr g)) = []

abbrev pub grants_of : Option (Clip ⊎ Grant) → List Grant
grants_of None = []
grants_of (Some (inl k)) = []
grants_of (Some (inr g)) = g ∷ []

-- the day that is asked for, there or not; none where none is asked for
abbrev pub IsDayAnswer : Option ℕ → PlanRow → Questions Day → Option Day → Type 0
IsDayAnswer asked plan days day = day ≡ option_map (day_at plan days) asked

-- what was aired of the day that is asked for; none where none is asked for
abbrev pub IsAiringAnswer : Option ℕ → PlanRow → Questions DayAsRun → Option Airing → Type 0
IsAiringAnswer asked plan aired airing = airing ≡ option_map (airing_at plan aired) asked

-- the items of a day; none where no day is asked for
abbrev pub items_in : Option Day → List Item
items_in None = []
items_in (Some day) = day.items

-- the items at hand, else those of the day that is asked for
abbrev pub items_asked : Option (Bor (List Item)) → Option Day → List Item
items_asked None day = items_in day
items_asked (Some items) day = items.now

-- just the clip or the lent clip that the source names, if it is there
abbrev pub IsSourceAnswer : Source → List Clip → List Grant → List Clip → List Grant → Type 0
IsSourceAnswer source clips grants part_clips part_grants =
    (part_clips ≡ clips_of (found (seen_of clips grants) source))
    × (part_grants ≡ grants_of (found (seen_of clips grants) source))

-- What each of the sources names is found in the part as among all, and each row of the part is one of all.
pub record NamesAlike (sources : List Source) (clips : List Clip) (grants : List Grant) (part_clips : List Clip)
    (part_grants : List Grant) : Type 0 where
  pub named : Each (λ s. found (seen_of part_clips part_grants) s ≡ found (seen_of clips grants) s) sources
  pub own : Each (Contains clips) part_clips
  pub lent : Each (Contains grants) part_grants

-- the sources of items
abbrev pub sources_of : List Item → List Source
sources_of = map (λ i. i.src)

-- the sources that a need names
abbrev pub names_asked : Option (Bor (List Source)) → List Source
names_asked None = []
names_asked (Some sources) = sources.now

-- of these clips and lent clips none, just the one that the source names, or what these items or these sources name
abbrev pub AreSourceAnswers : SourcesAsked → List Item → List Source → List Clip → List Grant → List Clip → List Grant
    → Type 0
AreSourceAnswers Nothing items sources clips grants part_clips part_grants = (part_clips ≡ []) × (part_grants ≡ [])
AreSourceAnswers (One source) items sources clips grants part_clips part_grants =
    IsSourceAnswer source clips grants part_clips part_grants
AreSourceAnswers OfItems items sources clips grants part_clips part_grants =
    NamesAlike (sources_of items) clips grants part_clips part_grants
AreSourceAnswers Named items sources clips grants part_clips part_grants =
    NamesAlike sources clips grants part_clips part_grants

-- The part holds the answers of what the channel sees to the questions of the need, and no row beside them; of clips
-- and lent clips that items are to name, none beside those that are seen.
pub record IsPartOf (need : Need) (view : View) (part : Part) : Type 0 where
  pub plan : part.plan ≡ (seen_in view).own.plan
  pub tapes : AreTapeAnswers need.tapes (seen_in view).own.tapes part.tapes
  pub clips : AreClipAnswers need.clips (seen_in view).own.clips part.clips
  pub offers : AreOfferAnswers need.offers (seen_in view).own.offers part.offers
  pub day : IsDayAnswer need.day (seen_in view).own.plan (seen_in view).days part.day
  pub aired : IsAiringAnswer need.aired (seen_in view).own.plan (seen_in view).aired part.aired
  pub sources : AreSourceAnswers need.sources (items_asked need.items part.day) (names_asked need.named) view.own.clips
      view.lent part.sources.clips.items part.sources.grants.items

-- a part of what the channel sees, or none of either
abbrev pub IsFetched : Need → Option View → Option Part → Type 0
IsFetched need None None = ⊤
IsFetched need None (Some part) = ⊥
IsFetched need (Some view) None = ⊥
IsFetched need (Some view) (Some part) = IsPartOf need view part
