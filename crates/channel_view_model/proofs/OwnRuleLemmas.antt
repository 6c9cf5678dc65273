-- A command keeps the rules of its channel's own rows.
use Rattle.std.proofs.Common.{◌≡◌, ℕ, List, Bool, true, false, refl}
use Rattle.std.specs.Prelude.{Result, Ok, Err, if◌then◌else◌}
use Rattle.channel_plan.specs.declared.refusal.Refusal.{Refusal}
use Rattle.vault_core.specs.declared.tape.Tape.{Tape}
use Rattle.vault_core.specs.declared.clip.Clip.{Clip}
use Rattle.vault_core.specs.declared.offer.Offer.{Offer}
use Rattle.vault_core.specs.Own.{Own, own_seen}
use Rattle.vault_core.specs.Rules.{KeepsOwnRules}
use Rattle.vault_core.specs.Command.{tape_decided, tape_is_put, clip_decided, clip_is_put}
use Rattle.grant_core.specs.Command.{offer_decided, offer_is_put}
use Rattle.channel_view_model.specs.declared.view.View.{View}
use Rattle.channel_view_model.specs.declared.command.Command.{Command}
use Rattle.channel_view_model.specs.declared.command.Command.TheVariants as commands
use Rattle.channel_view_model.specs.declared.command.VaultCommand.{VaultCommand}
use Rattle.channel_view_model.specs.declared.command.VaultCommand.TheVariants as asks
use Rattle.channel_view_model.specs.declared.command.Reply.TheVariants as replies
use Rattle.channel_view_model.specs.declared.command.Change.{Change}
use Rattle.channel_view_model.specs.declared.command.Change.TheVariants.{Nothing, Vault as OnVault, Day as OnDay}
use Rattle.channel_view_model.specs.declared.command.Change.TheVariants.{Airing as OnAiring}
use Rattle.channel_view_model.specs.declared.command.VaultChange.TheVariants.{Tape as TapeRow, Clip as ClipRow}
use Rattle.channel_view_model.specs.declared.command.VaultChange.TheVariants.{Offer as OfferRow}
use Rattle.channel_view_model.specs.Seen.{Seen, seen_in, sources_seen}
use Rattle.channel_plan.specs.declared.plan.PlanRow.{PlanRow}
use Rattle.channel_plan.specs.declared.refusal.Code.TheVariants.{NoDay}
use Rattle.channel_plan.specs.Refusal.{refused}
use Rattle.playlist_core.specs.declared.day.DayState.TheVariants.{Open, Sealed}
use Rattle.playlist_core.specs.Source.{SourcesSeen}
use Rattle.playlist_core.specs.Day.{Day, day_opened, day_sealed, number_removed, with_item, without_item}
use Rattle.playlist_edl.specs.Importing.{counts_of, events_in, import_of}
use Rattle.playlist_edl.specs.Exporting.{exported}
use Rattle.channel_view_model.specs.declared.command.Reply.{Reply}
use Rattle.channel_view_model.specs.declared.day_command.DayCommand.{DayCommand}
use Rattle.channel_view_model.specs.declared.day_command.DayCommand.TheVariants as days
use Rattle.asrun_match.specs.Aired.{Airing}
use Rattle.asrun_match.specs.Batches.{day_after, has_batch}
use Rattle.channel_view_model.specs.declared.command.AiringCommand.{AiringCommand}
use Rattle.channel_view_model.specs.declared.command.AiringCommand.TheVariants as airings
use Rattle.channel_view_model.specs.Airings.{airing_at, match_of}
use Rattle.playlist_core.specs.Difference.{changed_day}
use Rattle.channel_view_model.specs.Days.{is_day_number, day_at, item_said, item_of_said}
use Rattle.channel_view_model.specs.Solo.{change_of}
use Rattle.channel_view_model.specs.Decide.{answered, written, table_of_day, numbers_in_range, day_decision}
use Rattle.channel_view_model.specs.Decide.{airing_decision, batch_change, batch_taken, decision, vault_decision}
use Rattle.channel_view_model.specs.Decide.{own_after, revision_change, revision_made}
use Rattle.channel_view_model.specs.declared.revision.ItemRefusal.{ItemRefusal}
use Rattle.channel_view_model.specs.Revision.{SaidRevision, says_nothing}
use Rattle.channel_view_model.specs.Revising.{day_revised}
use Rattle.vault_core.proofs.CommandLemmas.{tape_may_be_put, tape_kept, clip_may_be_put, clip_kept}
use Rattle.grant_core.proofs.CommandLemmas.{offer_may_be_put, offer_kept}
use Rattle.channel_view_model.specs.Puts.{RowMayBePut}

-- a command's change puts a row that may be put so
abbrev pub ChangeMayBe : Change → Own → Type 0
ChangeMayBe Nothing own = Unit {0}
ChangeMayBe (OnVault put ch) own = RowMayBePut put ch own
ChangeMayBe (OnDay change) own = Unit {0}
ChangeMayBe (OnAiring airing) own = Unit {0}

-- what a command changes of a channel's own rows
abbrev pub own_changed_so : Change → Own → Type 0
own_changed_so Nothing own = KeepsOwnRules own
own_changed_so (OnVault put ch) own = KeepsOwnRules (own_after ch own) × RowMayBePut put ch own
own_changed_so (OnDay change) own = ⊥
own_changed_so (OnAiring airing) own = ⊥

-- of each command on own rows, whatever these are
pub own_may_be : (own : Own) (q : VaultCommand) → ChangeMayBe (vault_decision (own_seen own) q).1 own
unfolding vault_decision
own_may_be own (asks.Tape q) = by (tape_decided (own_seen own) q) refl
  where
    by : (r : Result Tape Refusal) → tape_decided (own_seen own) q ≡ r
        → ChangeMayBe (answered (λ t. (replies.Tape t.n, OnVault (tape_is_put q) (TapeRow t))) r).1 own
    by (Ok t) e = tape_may_be_put own q t e
    by (Err e) is = tt
own_may_be own (asks.Clip q) = by (clip_decided (own_seen own) q) refl
  where
    by : (r : Result Clip Refusal) → clip_decided (own_seen own) q ≡ r
        → ChangeMayBe (answered (λ k. (replies.Clip k.n, OnVault (clip_is_put q) (ClipRow k))) r).1 own
    by (Ok k) e = clip_may_be_put own q k e
    by (Err e) is = tt
own_may_be own (asks.Offer q) = by (offer_decided (own_seen own) q) refl
  where
    by : (r : Result Offer Refusal) → offer_decided (own_seen own) q ≡ r
        → ChangeMayBe (answered (λ o. (replies.Offer o.n, OnVault (offer_is_put q) (OfferRow o))) r).1 own
    by (Ok o) e = offer_may_be_put own q o e
    by (Err e) is = tt

-- each command keeps the channel's own rules
pub own_kept : (own : Own) (q : VaultCommand) → KeepsOwnRules own
    → own_changed_so (vault_decision (own_seen own) q).1 own
unfolding vault_decision
own_kept own (asks.Tape q) rules = by (tape_decided (own_seen own) q) refl
  where
    by : (r : Result Tape Refusal) → tape_decided (own_seen own) q ≡ r
        → own_changed_so (answered (λ t. (replies.Tape t.n, OnVault (tape_is_put q) (TapeRow t))) r).1 own
    by (Ok t) e = (tape_kept own q t e rules, tape_may_be_put own q t e)
    by (Err e) is = rules
own_kept own (asks.Clip q) rules = by (clip_decided (own_seen own) q) refl
  where
    by : (r : Result Clip Refusal) → clip_decided (own_seen own) q ≡ r
        → own_changed_so (answered (λ k. (replies.Clip k.n, OnVault (clip_is_put q) (ClipRow k))) r).1 own
    by (Ok k) e = (clip_kept own q k e rules, clip_may_be_put own q k e)
    by (Err e) is = rules
own_kept own (asks.Offer q) rules = by (offer_decided (own_seen own) q) refl
  where
    by : (r : Result Offer Refusal) → offer_decided (own_seen own) q ≡ r
        → own_changed_so (answered (λ o. (replies.Offer o.n, OnVault (offer_is_put q) (OfferRow o))) r).1 own
    by (Ok o) e = (offer_kept own q o e rules, offer_may_be_put own q o e)
    by (Err e) is = rules

-- a change of a day, or none
abbrev pub IsOfDay : Change → Type 0
IsOfDay Nothing = Unit {0}
IsOfDay (OnVault put ch) = ⊥
IsOfDay (OnDay change) = Unit {0}
IsOfDay (OnAiring airing) = Unit {0}

of_day : {X : Type 0} (before : Day) (reply : X → Reply) (after : X → Day) (r : Result X Refusal)
    → IsOfDay (answered (λ x. (reply x, OnDay (changed_day before (after x)))) r).1
of_day before reply after (Ok x) = tt
of_day before reply after (Err e) = tt

of_text : (r : Result (List ℕ) Refusal) → IsOfDay (written r).1
of_text (Ok text) = tt
of_text (Err e) = tt

of_revision : (said : SaidRevision) (day : Day) (r : Result Day ItemRefusal) → IsOfDay (revision_made said day r).1
of_revision said day (Ok after) = by (says_nothing said)
  where
    by : (nothing : Bool) → IsOfDay (revision_change nothing day after)
    by true = tt
    by false = tt
of_revision said day (Err e) = tt

-- a command on a day changes days alone
pub day_change : (plan : PlanRow) (day : Day) (seen : SourcesSeen) (q : DayCommand)
    → IsOfDay (day_decision plan day seen q).1
unfolding day_decision
day_change plan day seen days.Open = of_day day replies.Day (λ n. record day { state = Open }) (day_opened day)
day_change plan day seen (days.AddItem at frames source_in mix source) =
    of_day day (λ i. replies.Item i.n) (λ i. with_item i day)
    (item_of_said day plan seen (item_said plan at frames source_in mix source))
day_change plan day seen (days.RemoveItem n) = of_day day replies.Item (λ m. without_item n day) (number_removed day n)
day_change plan day seen (days.Revise said) = of_revision said day (day_revised plan seen said day)
day_change plan day seen (days.Import list ignore) =
    of_day day (λ d. replies.Items (counts_of (events_in plan.rate list))) (λ d. d)
    (import_of day plan seen ignore list)
day_change plan day seen days.Seal =
    of_day day replies.Day (λ n. record day { state = Sealed }) (day_sealed day plan seen)
day_change plan day seen days.WritePlan = of_text (table_of_day plan day)
day_change plan day seen days.ExportList = of_text (exported day plan seen)

pub day_change_asked : (seen : Seen) (n : ℕ) (q : DayCommand) → IsOfDay (decision seen (commands.Day n q)).1
unfolding decision
day_change_asked seen n q =
    elim (numbers_in_range n q)
    as (λ b. IsOfDay
    (if b then day_decision seen.own.plan (day_at seen.own.plan seen.days n) (sources_seen seen) q
    else (replies.Refused (refused NoDay), Nothing)).1) [
      | true ↦ day_change seen.own.plan (day_at seen.own.plan seen.days n) (sources_seen seen) q
      | false ↦ tt
    ]

-- and so does a command on what was aired of one
airing_change : (plan : PlanRow) (day : Day) (airing : Airing) (q : AiringCommand)
    → IsOfDay (airing_decision plan day airing q).1
unfolding airing_decision
airing_change plan day airing (airings.TakeBatch n rows) =
    by (has_batch n airing) (day_after day.state plan n rows airing)
  where
    of_known : (known : Bool) (after : Airing) → IsOfDay (batch_change known day.number after)
    of_known true after = tt
    of_known false after = tt

    by : (known : Bool) (r : Result Airing Refusal) → IsOfDay (batch_taken day.number n known r).1
    by known (Ok after) = of_known known after
    by known (Err e) = tt
airing_change plan day airing airings.WriteMatch = of_text (match_of plan day airing)

pub airing_change_asked : (seen : Seen) (n : ℕ) (q : AiringCommand) → IsOfDay (decision seen (commands.Airing n q)).1
unfolding decision
airing_change_asked seen n q =
    elim (is_day_number n)
    as (λ b. IsOfDay
    (if b
    then airing_decision seen.own.plan (day_at seen.own.plan seen.days n) (airing_at seen.own.plan seen.aired n) q
    else (replies.Refused (refused NoDay), Nothing)).1) [
      | true ↦ airing_change seen.own.plan (day_at seen.own.plan seen.days n) (airing_at seen.own.plan seen.aired n) q
      | false ↦ tt
    ]

-- the rules of own rows after any change
abbrev pub own_stays_so : Change → Own → Type 0
own_stays_so Nothing own = KeepsOwnRules own
own_stays_so (OnVault put ch) own = KeepsOwnRules (own_after ch own) × RowMayBePut put ch own
own_stays_so (OnDay change) own = KeepsOwnRules own
own_stays_so (OnAiring airing) own = KeepsOwnRules own

own_stays : (ch : Change) (own : Own) → own_changed_so ch own → own_stays_so ch own
own_stays Nothing own kept = kept
own_stays (OnVault put ch) own kept = kept
own_stays (OnDay change) own kept = absurd kept
own_stays (OnAiring airing) own kept = absurd kept

day_kept : (ch : Change) (own : Own) → IsOfDay ch → KeepsOwnRules own → own_stays_so ch own
day_kept Nothing own is rules = rules
day_kept (OnVault put ch) own is rules = absurd is
day_kept (OnDay change) own is rules = rules
day_kept (OnAiring airing) own is rules = rules

-- and so does each over what the channel sees
pub decision_kept : (v : View) (q : Command) → KeepsOwnRules v.own → own_stays_so (decision (seen_in v) q).1 v.own
unfolding decision
decision_kept v (commands.Vault q) rules =
    own_stays (vault_decision (own_seen v.own) q).1 v.own (own_kept v.own q rules)
decision_kept v (commands.Day n q) rules =
    day_kept (decision (seen_in v) (commands.Day n q)).1 v.own (day_change_asked (seen_in v) n q) rules
decision_kept v (commands.Airing n q) rules =
    day_kept (decision (seen_in v) (commands.Airing n q)).1 v.own (airing_change_asked (seen_in v) n q) rules
decision_kept v commands.PlanRow rules = rules
decision_kept v (commands.Table table) rules = rules

day_may_be : (ch : Change) (own : Own) → IsOfDay ch → ChangeMayBe ch own
day_may_be Nothing own is = tt
day_may_be (OnVault put ch) own is = absurd is
day_may_be (OnDay change) own is = tt
day_may_be (OnAiring airing) own is = tt

-- and puts a row that may be put so
pub decision_may_be : (v : View) (q : Command) → ChangeMayBe (decision (seen_in v) q).1 v.own
unfolding decision
decision_may_be v (commands.Vault q) = own_may_be v.own q
decision_may_be v (commands.Day n q) =
    day_may_be (decision (seen_in v) (commands.Day n q)).1 v.own (day_change_asked (seen_in v) n q)
decision_may_be v (commands.Airing n q) =
    day_may_be (decision (seen_in v) (commands.Airing n q)).1 v.own (airing_change_asked (seen_in v) n q)
decision_may_be v commands.PlanRow = tt
decision_may_be v (commands.Table table) = tt

-- and so does what a command changes of own rows alone
pub change_may_be : (own : Own) (q : Command) → ChangeMayBe (change_of own q) own
change_may_be own (commands.Vault q) = own_may_be own q
change_may_be own (commands.Day n q) = tt
change_may_be own (commands.Airing n q) = tt
change_may_be own commands.PlanRow = tt
change_may_be own (commands.Table table) = tt
