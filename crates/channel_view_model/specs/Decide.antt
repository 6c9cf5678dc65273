-- Part of the promise: the reply and the change of each command.
use Rattle.std.specs.Prelude.{ℕ, List, Bool, ◌&&◌, nat_le, Result, Ok, Err, if◌then◌else◌}
use Rattle.channel_plan.specs.declared.refusal.Refusal.{Refusal}
use Rattle.channel_view_model.specs.declared.command.Command.{Command}
use Rattle.channel_view_model.specs.declared.command.Command.TheVariants as commands
use Rattle.channel_view_model.specs.declared.command.VaultCommand.{VaultCommand}
use Rattle.channel_view_model.specs.declared.command.VaultCommand.TheVariants as asks
use Rattle.channel_view_model.specs.declared.command.Reply.{Reply}
use Rattle.channel_view_model.specs.declared.day_command.DayCommand.{DayCommand}
use Rattle.channel_view_model.specs.declared.day_command.DayCommand.TheVariants as days
use Rattle.channel_view_model.specs.declared.command.AiringCommand.{AiringCommand}
use Rattle.channel_view_model.specs.declared.command.AiringCommand.TheVariants as airings
use Rattle.channel_view_model.specs.declared.command.Reply.TheVariants.{Tape as TapeOf, Clip as ClipOf}
use Rattle.channel_view_model.specs.declared.command.Reply.TheVariants.{Offer as OfferOf}
use Rattle.channel_view_model.specs.declared.command.Reply.TheVariants.{Day as DayOf, Item as ItemOf, Items as ItemsOf}
use Rattle.channel_view_model.specs.declared.command.Reply.TheVariants.{Batch as BatchOf, PlanRow as RowOf}
use Rattle.channel_view_model.specs.declared.command.Reply.TheVariants.{Table as TableOf}
use Rattle.channel_view_model.specs.declared.command.Reply.TheVariants.{Refused, Revised as RevisedOf, ItemRefused}
use Rattle.channel_view_model.specs.declared.command.VaultChange.{VaultChange}
use Rattle.channel_view_model.specs.declared.command.VaultChange.TheVariants.{Tape as TapeRow, Clip as ClipRow}
use Rattle.channel_view_model.specs.declared.command.VaultChange.TheVariants.{Offer as OfferRow}
use Rattle.channel_view_model.specs.declared.command.Change.{Change}
use Rattle.channel_view_model.specs.declared.command.Change.TheVariants.{Nothing, Vault as OnVault, Day as OnDay}
use Rattle.channel_view_model.specs.declared.command.Change.TheVariants.{Airing as OnAiring}
use Rattle.vault_core.specs.Own.{Own, OwnSeen}
use Rattle.vault_core.specs.Command.{tape_decided, tape_is_put, tape_put, clip_decided, clip_is_put, clip_put}
use Rattle.vault_core.specs.Command.{offer_put}
use Rattle.grant_core.specs.Command.{offer_decided, offer_is_put}
use Rattle.channel_plan.specs.declared.plan.PlanRow.{PlanRow}
use Rattle.playlist_core.specs.Limits.{most_mix}
use Rattle.playlist_core.specs.declared.item.Item.{Item}
use Rattle.playlist_core.specs.declared.day.DayState.{DayState}
use Rattle.playlist_core.specs.declared.day.DayState.TheVariants.{NotThere, Open, Sealed}
use Rattle.playlist_core.specs.Source.{SourcesSeen}
use Rattle.playlist_core.specs.Day.{Day, day_opened, day_sealed, number_removed, with_item, without_item}
use Rattle.playlist_core.specs.Difference.{changed_day}
use Rattle.playlist_edl.specs.Importing.{counts_of, events_in, import_of}
use Rattle.playlist_edl.specs.Exporting.{exported}
use Rattle.report_texts.specs.Playlist.{plan_text}
use Rattle.channel_plan.specs.declared.refusal.Code.TheVariants.{NoDay}
use Rattle.channel_plan.specs.Refusal.{refused}
use Rattle.asrun_match.specs.Aired.{Airing}
use Rattle.asrun_match.specs.Batches.{batch_frames, batch_in, day_after, has_batch}
use Rattle.channel_view_model.specs.Airings.{airing_at, match_of}
use Rattle.channel_view_model.specs.Days.{is_day_number, day_at, item_said, item_of_said}
use Rattle.channel_view_model.specs.declared.revision.ItemRefusal.{ItemRefusal}
use Rattle.channel_view_model.specs.Revision.{SaidRevision, counts_said, is_revision, says_nothing}
use Rattle.channel_view_model.specs.Revising.{day_revised}
use Rattle.channel_view_model.specs.Seen.{Seen, sources_seen}
use Rattle.channel_view_model.specs.TableText.{text_seen}

abbrev pub Decided : Type 0
Decided = Reply × Change

-- a refusal changes nothing
abbrev pub answered : {X : Type 0} → (X → Decided) → Result X Refusal → Decided
answered done (Ok x) = done x
answered done (Err e) = (Refused e, Nothing)

-- what is done with a day that is there
abbrev pub on_day : {X : Type 0} → DayState → X → Result X Refusal
on_day NotThere made = Err (refused NoDay)
on_day Open made = Ok made
on_day Sealed made = Ok made

-- commands on own rows: the number of the row that is put
unfoldable pub vault_decision : OwnSeen → VaultCommand → Decided
vault_decision own (asks.Tape q) =
    answered (λ t. (TapeOf t.n, OnVault (tape_is_put q) (TapeRow t))) (tape_decided own q)
vault_decision own (asks.Clip q) =
    answered (λ k. (ClipOf k.n, OnVault (clip_is_put q) (ClipRow k))) (clip_decided own q)
vault_decision own (asks.Offer q) =
    answered (λ o. (OfferOf o.n, OnVault (offer_is_put q) (OfferRow o))) (offer_decided own q)

-- the plan table of a day that is there
abbrev pub table_of_day : PlanRow → Day → Result (List ℕ) Refusal
table_of_day plan day = on_day day.state (plan_text plan day)

-- a text changes nothing
abbrev pub written : Result (List ℕ) Refusal → Decided
written made = answered (λ text. (TableOf text, Nothing)) made

-- the day with an item more
abbrev pub item_added : Day → Result Item Refusal → Decided
item_added day made = answered (λ i. (ItemOf i.n, OnDay (changed_day day (with_item i day)))) made

-- a revision that says nothing changes nothing
abbrev pub revision_change : Bool → Day → Day → Change
revision_change nothing day after = if nothing then Nothing else OnDay (changed_day day after)

abbrev pub revision_made : SaidRevision → Day → Result Day ItemRefusal → Decided
revision_made said day (Ok after) = (RevisedOf (counts_said said), revision_change (says_nothing said) day after)
revision_made said day (Err e) = (ItemRefused e, Nothing)

-- commands on a day, over the day as it is and the clips and lent clips that items may show
unfoldable pub day_decision : PlanRow → Day → SourcesSeen → DayCommand → Decided
day_decision plan day seen days.Open =
    answered (λ n. (DayOf n, OnDay (changed_day day (record day { state = Open })))) (day_opened day)
day_decision plan day seen (days.AddItem at frames source_in mix source) =
    item_added day (item_of_said day plan seen (item_said plan at frames source_in mix source))
day_decision plan day seen (days.RemoveItem n) =
    answered (λ m. (ItemOf m, OnDay (changed_day day (without_item n day)))) (number_removed day n)
day_decision plan day seen (days.Revise said) = revision_made said day (day_revised plan seen said day)
day_decision plan day seen (days.Import list ignore) =
    answered (λ d. (ItemsOf (counts_of (events_in plan.rate list)), OnDay (changed_day day d)))
    (import_of day plan seen ignore list)
day_decision plan day seen days.Seal =
    answered (λ n. (DayOf n, OnDay (changed_day day (record day { state = Sealed })))) (day_sealed day plan seen)
day_decision plan day seen days.WritePlan = written (table_of_day plan day)
day_decision plan day seen days.ExportList = written (exported day plan seen)

-- a batch that was there already changes nothing
abbrev pub batch_change : Bool → ℕ → Airing → Change
batch_change known day after = if known then Nothing else OnAiring (record { day = day; aired = after })

abbrev pub batch_taken : ℕ → ℕ → Bool → Result Airing Refusal → Decided
batch_taken day n known made =
    answered (λ after. (BatchOf n (batch_frames (batch_in n after)), batch_change known day after)) made

-- commands on what was aired of a day, over the day and what was aired of it
unfoldable pub airing_decision : PlanRow → Day → Airing → AiringCommand → Decided
airing_decision plan day airing (airings.TakeBatch n rows) =
    batch_taken day.number n (has_batch n airing) (day_after day.state plan n rows airing)
airing_decision plan day airing airings.WriteMatch = written (match_of plan day airing)

-- the number of a day, the mix of an item and a revision are in range; no command has others
abbrev pub numbers_in_range : ℕ → DayCommand → Bool
numbers_in_range n (days.AddItem at frames source_in mix source) = is_day_number n && nat_le mix most_mix
numbers_in_range n (days.Revise said) = is_day_number n && is_revision said
numbers_in_range n _ = is_day_number n

unfoldable pub decision : Seen → Command → Decided
decision seen (commands.Vault q) = vault_decision seen.own q
decision seen (commands.Day n q) =
    if numbers_in_range n q then day_decision seen.own.plan (day_at seen.own.plan seen.days n) (sources_seen seen) q
    else (Refused (refused NoDay), Nothing)
decision seen (commands.Airing n q) =
    if is_day_number n then airing_decision seen.own.plan (day_at seen.own.plan seen.days n)
    (airing_at seen.own.plan seen.aired n) q else (Refused (refused NoDay), Nothing)
decision seen commands.PlanRow = (RowOf seen.own.plan, Nothing)
decision seen (commands.Table table) = (TableOf (text_seen table seen), Nothing)

-- the own rows of one channel after a change: its row stands among those of its kind
abbrev pub own_after : VaultChange → Own → Own
own_after (TapeRow t) own = tape_put t own
own_after (ClipRow k) own = clip_put k own
own_after (OfferRow o) own = offer_put o own
