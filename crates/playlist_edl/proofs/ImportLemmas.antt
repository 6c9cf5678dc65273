-- Events one after another, as a loop takes them.
use Rattle.std.proofs.Common.{◌≡◌, ℕ, ◌<◌, List, length, get_or, sym, subst, arith}
use Rattle.std.specs.Prelude.{All, Result, Ok, Err}
use Rattle.std.proofs.lemmas.List.{get_or-map, length-map}
use Rattle.edl.specs.declared.list.Event.{Event}
use Rattle.edl.specs.EntryShown.{entries_of, entry_shown}
use Rattle.channel_plan.specs.declared.refusal.Refusal.{Refusal}
use Rattle.playlist_core.specs.declared.day.DayState.{DayState}
use Rattle.playlist_core.specs.declared.day.DayState.TheVariants.{NotThere, Open, Sealed}
use Rattle.playlist_core.specs.Day.{Day, if_open}
use Rattle.playlist_edl.specs.Importing.{HasShortMix}

pub mix_at : (events : List Event) (i : ℕ) (d e : Event) → e ≡ get_or events i d → All HasShortMix (entries_of events)
    → i < length events → HasShortMix (entry_shown e)
mix_at events i d e read all lt =
    let there : i < length (entries_of events) = omega (arith, length-map events entry_shown) in
    subst (λ (x : Event). HasShortMix (entry_shown x)) (sym read)
    (subst HasShortMix (get_or-map entry_shown events i d (entry_shown d) lt) (all i (entry_shown d) there))

-- what a day that isn't open answers, it answers whatever is asked
pub not_open : (state : DayState) (r : Result Day Refusal) (e : Refusal) → if_open {X = Unit {0}} state (Ok tt) ≡ Err e
    → if_open state r ≡ Err e
not_open NotThere r e h = cc
not_open Open r e h = cc
not_open Sealed r e h = cc
