-- Part of the promise: one channel alone, and what the requests of the others are to it.
use Rattle.std.specs.Prelude.{ℕ, List, [], ◌∷◌, ◌++◌, Bool, true, false, ◌&&◌, ◌||◌, ◌==◌, nat_lt, Option, Some, None}
use Rattle.std.specs.Prelude.{filter, if◌then◌else◌}
use Rattle.std.specs.List.{list_any}
use Rattle.std.specs.Option.{option_map}
use Rattle.vault_core.specs.Questions.{alter}
use Rattle.vault_core.specs.Own.{Own, own_seen}
use Rattle.grant_core.specs.declared.grant.Grant.{Grant}
use Rattle.channel_view_model.specs.declared.view.View.{View}
use Rattle.channel_view_model.specs.declared.command.Command.{Command}
use Rattle.channel_view_model.specs.declared.command.Command.TheVariants as commands
use Rattle.channel_view_model.specs.declared.command.Change.{Change}
use Rattle.channel_view_model.specs.declared.command.Change.TheVariants.{Nothing, Vault as OnVault, Day as OnDay}
use Rattle.channel_view_model.specs.declared.command.Change.TheVariants.{Airing as OnAiring}
use Rattle.channel_view_model.specs.declared.command.VaultChange.{VaultChange}
use Rattle.channel_view_model.specs.declared.command.VaultChange.TheVariants.{Tape as TapeRow, Clip as ClipRow}
use Rattle.channel_view_model.specs.declared.command.VaultChange.TheVariants.{Offer as OfferRow}
use Rattle.vault_core.specs.declared.offer.Offer.{Offer}
use Rattle.channel_view_model.specs.declared.command.Outcome.{Outcome}
use Rattle.channel_view_model.specs.declared.command.Outcome.TheVariants.{Replied, NoChannel}
use Rattle.channel_view_model.specs.Days.{with_day}
use Rattle.channel_view_model.specs.Airings.{with_airing}
use Rattle.channel_view_model.specs.Tables.{put}
use Rattle.channel_view_model.specs.Seen.{seen_in}
use Rattle.channel_view_model.specs.Decide.{decision, vault_decision, own_after}
use Rattle.channel_view_model.specs.Centre.{Centre, Request, view_of, outcomes}

-- what comes to the machine of one channel: a command of its own, a clip that another lends it, or that this is
-- withdrawn
pub data Event : Type 0 where
  Asked : (command : Command) → Event
  Granted : (grant : Grant) → Event
  Withdrawn : (owner number : ℕ) → Event

-- what a channel by itself is answered
unfoldable pub solo_reply : Option View → Command → Outcome
solo_reply None q = NoChannel
solo_reply (Some v) q = Replied (decision (seen_in v) q).0

-- what it sees after a change of its own
abbrev pub view_after : Change → View → View
view_after Nothing v = v
view_after (OnVault put change) v = record v { own = own_after change v.own }
view_after (OnDay change) v = record v { days = with_day change.day v.days }
view_after (OnAiring airing) v = record v { aired = with_airing airing v.aired }

unfoldable pub solo_after : Option View → Command → Option View
solo_after None q = None
solo_after (Some v) q = Some (view_after (decision (seen_in v) q).1 v)

-- one lent clip more, by owner and number, or one that is withdrawn
unfoldable pub lent_after : Event → List Grant → List Grant
lent_after (Asked q) lent = lent
lent_after (Granted g) lent = put (λ h. nat_lt g.owner h.owner) g lent
lent_after (Withdrawn owner n) lent =
    alter (λ g. g.owner == owner && g.offer.n == n)
    (λ g. record g { offer = record g.offer { withdrawn = true } }) lent

abbrev pub heard : Event → View → View
heard e v = record v { lent = lent_after e v.lent }

-- what it sees once others' offers and withdrawals have come to it
abbrev pub hears : List Event → Option View → Option View
hears [] v = v
hears (e ∷ es) v = hears es (option_map (heard e) v)

-- the solo machine: what each command is answered, from what the channel sees at first
abbrev pub solo_outcomes : Option View → List Event → List Outcome
solo_outcomes v [] = []
solo_outcomes v (Asked q ∷ es) = solo_reply v q ∷ solo_outcomes (solo_after v q) es
solo_outcomes v (Granted g ∷ es) = solo_outcomes (hears (Granted g ∷ []) v) es
solo_outcomes v (Withdrawn owner n ∷ es) = solo_outcomes (hears (Withdrawn owner n ∷ []) v) es

-- the own rows of a channel alone, and what its commands on these do
abbrev pub own_part : Option View → Option Own
own_part v = option_map (λ w. w.own) v

abbrev pub change_of : Own → Command → Change
change_of own (commands.Vault q) = (vault_decision (own_seen own) q).1
change_of own (commands.Day n q) = Nothing
change_of own (commands.Airing n q) = Nothing
change_of own commands.PlanRow = Nothing
change_of own (commands.Table table) = Nothing

abbrev pub changed_own : Change → Own → Own
changed_own Nothing own = own
changed_own (OnVault put change) own = own_after change own
changed_own (OnDay change) own = own
changed_own (OnAiring airing) own = own

abbrev pub own_step : Option Own → Command → Option Own
own_step own q = option_map (λ o. changed_own (change_of o q) o) own

-- what a change of channel b's own rows is to c: an offer to c, the withdrawal of one, or nothing
abbrev pub event_of_offer : ℕ → Offer → Event
event_of_offer b o = if o.withdrawn then Withdrawn b o.n else Granted (record { owner = b; offer = o })

abbrev pub events_of_own_change : ℕ → ℕ → VaultChange → List Event
events_of_own_change c b (TapeRow t) = []
events_of_own_change c b (ClipRow k) = []
events_of_own_change c b (OfferRow o) = if o.grantee == c then event_of_offer b o ∷ [] else []

abbrev pub events_of_change : ℕ → ℕ → Change → List Event
events_of_change c b Nothing = []
events_of_change c b (OnVault put change) = events_of_own_change c b change
events_of_change c b (OnDay change) = []
events_of_change c b (OnAiring airing) = []

-- what a command of channel b, over its own rows, is to c
unfoldable pub events_of : ℕ → ℕ → Option Own → Command → List Event
events_of c b None q = []
events_of c b (Some own) q = events_of_change c b (change_of own q)

-- the own rows of every channel, each by itself, after a request
abbrev pub owns_after : (ℕ → Option Own) → Request → ℕ → Option Own
owns_after owns r b = if r.0 == b then own_step (owns b) r.1 else owns b

-- what one request is to c
abbrev pub heard_of : ℕ → (ℕ → Option Own) → Request → List Event
heard_of c owns r = if r.0 == c then Asked r.1 ∷ [] else events_of c r.0 (owns r.0) r.1

abbrev pub feed_from : ℕ → (ℕ → Option Own) → List Request → List Event
feed_from c owns [] = []
feed_from c owns (r ∷ rs) = heard_of c owns r ++ feed_from c (owns_after owns r) rs

-- what the requests of a run are to c: each of another channel by its own rows alone
abbrev pub feed : ℕ → Centre → List Request → List Event
feed c rows rs = feed_from c (λ b. own_part (view_of b rows)) rs

-- the outcomes that go to c, of requests and their outcomes in order
abbrev pub outcomes_to : ℕ → List Request → List Outcome → List Outcome
outcomes_to c [] os = []
outcomes_to c (r ∷ rs) [] = []
outcomes_to c (r ∷ rs) (o ∷ os) = if r.0 == c then o ∷ outcomes_to c rs os else outcomes_to c rs os

abbrev pub replies_to : ℕ → Centre → List Request → List Outcome
replies_to c rows rs = outcomes_to c rs (outcomes rows rs)

-- an offer by b
abbrev pub is_grant_of : ℕ → Event → Bool
is_grant_of b (Asked q) = false
is_grant_of b (Granted g) = g.owner == b
is_grant_of b (Withdrawn owner n) = false

-- b owns a grant to c in the rows or in the feed
unfoldable pub lends : ℕ → Centre → List Request → ℕ → Bool
lends c rows rs b = list_any (λ r. r.0 == b && r.1.grantee == c) rows.offers
    || list_any (is_grant_of b) (feed c rows rs)

-- what is left of requests where those of all channels that lend nothing to c are deleted, but c's own
abbrev pub purge : ℕ → Centre → List Request → List Request
purge c rows rs = filter (λ r. r.0 == c || lends c rows rs r.0) rs
