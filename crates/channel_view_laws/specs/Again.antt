-- Part of the promise: requests that are sent again: what is answered to one that was done already, and what doing it
-- again leaves.
use Rattle.std.specs.Prelude.{◌≡◌, ◌⊎◌, List, [], ◌∷◌, Bool, true, false, take}
use Rattle.channel_plan.specs.declared.refusal.Code.{Code}
use Rattle.channel_plan.specs.declared.refusal.Code.TheVariants.{DayKnown, Overlap, NoItem, DaySealed}
use Rattle.vault_core.specs.Command.{tape_done, clip_done}
use Rattle.grant_core.specs.Command.{offer_done}
use Rattle.channel_view_model.specs.declared.command.Command.{Command}
use Rattle.channel_view_model.specs.declared.command.Command.TheVariants as commands
use Rattle.channel_view_model.specs.declared.command.VaultCommand.{VaultCommand}
use Rattle.channel_view_model.specs.declared.command.VaultCommand.TheVariants as asks
use Rattle.channel_view_model.specs.declared.day_command.DayCommand.{DayCommand}
use Rattle.channel_view_model.specs.declared.day_command.DayCommand.TheVariants as days
use Rattle.channel_view_model.specs.declared.command.Outcome.{Outcome}
use Rattle.channel_view_model.specs.declared.command.Outcome.TheVariants.{Replied}
use Rattle.channel_view_model.specs.declared.command.Reply.TheVariants.{Refused, ItemRefused}
use Rattle.channel_view_model.specs.Centre.{Centre, Request, reply_to, after, after_all}

-- the refusals that say of a command that it was done already
abbrev pub own_done : VaultCommand → Code
own_done (asks.Tape q) = tape_done q
own_done (asks.Clip q) = clip_done q
own_done (asks.Offer q) = offer_done q

-- one that writes a text has none
abbrev pub day_done : DayCommand → List Code
day_done days.Open = DayKnown ∷ []
day_done (days.AddItem at frames source_in mix source) = Overlap ∷ []
day_done (days.RemoveItem n) = NoItem ∷ []
day_done (days.Revise said) = NoItem ∷ Overlap ∷ []
day_done (days.Import list ignore) = Overlap ∷ []
day_done days.Seal = DaySealed ∷ []
day_done days.WritePlan = []
day_done days.ExportList = []

-- nor has a batch: it is answered as before
abbrev pub done_already : Command → List Code
done_already (commands.Vault q) = own_done q ∷ []
done_already (commands.Day n q) = day_done q
done_already (commands.Airing n q) = []
done_already commands.PlanRow = []
done_already (commands.Table table) = []

-- a revision may also be answered as before: where all that it takes out has come in by itself
abbrev pub may_repeat : Command → Bool
may_repeat (commands.Day n (days.Revise said)) = true
may_repeat _ = false

-- The outcome is a refusal of this code, be it of one of a list.
abbrev pub IsRefusedBy : Code → Outcome → Type 0
IsRefusedBy code (Replied (Refused e)) = e.code ≡ code
IsRefusedBy code (Replied (ItemRefused e)) = e.refusal.code ≡ code
IsRefusedBy code _ = ⊥

abbrev pub IsRefusedByOne : List Code → Outcome → Type 0
IsRefusedByOne [] outcome = ⊥
IsRefusedByOne (code ∷ codes) outcome = IsRefusedBy code outcome ⊎ IsRefusedByOne codes outcome

-- What comes of a request that is sent again right after it was done.
pub record IsDoneOnce (rows : Centre) (r : Request) : Type 0 where
  -- it changes nothing more
  pub stays : after (after rows r) r ≡ after rows r
  -- it is answered as before, where it changed nothing, or where there is no refusal to say that it was done
  pub as_before : (after rows r ≡ rows) ⊎ (done_already r.1 ≡ []) → reply_to (after rows r) r ≡ reply_to rows r
  -- else it is refused, as done already; a revision may be answered as before
  pub done : (code : Code) (codes : List Code) → done_already r.1 ≡ code ∷ codes → (after rows r ≡ rows → ⊥)
      → IsRefusedByOne (code ∷ codes) (reply_to (after rows r) r)
      ⊎ ((may_repeat r.1 ≡ true) × (reply_to (after rows r) r ≡ reply_to rows r))

-- What may be found of a run of which some requests are known to be done: what these left, or with the next one done.
abbrev pub MayBeFound : Centre → List Request → List Request → Centre → Type 0
MayBeFound rows known rest found =
    (found ≡ after_all rows known) ⊎ (found ≡ after_all (after_all rows known) (take 1 rest))
