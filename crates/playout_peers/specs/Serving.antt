-- Connections that are open at once, while they are served.
use Rattle.std.specs.Prelude.{◌≡◌, ◌≢◌, ◌≤◌, ◌<◌, ◌+◌, ◌⊎◌, ℕ, Bool, true, false, List, [], get_or}
use Rattle.std.specs.Prelude.{Option, Some, None}
use Rattle.channel_view_model.specs.Centre.{Centre}
use Rattle.http_office.specs.Run.{HasAnswered}
use Rattle.playout_lists.specs.Fault.{line_of}
use Rattle.playout_lists.specs.Telling.{Told, Tells, TellsAll}
use Rattle.playout_lists.specs.declared.fault.Fault.TheVariants.{Stream}
use Rattle.playout_lists.specs.declared.streams.InputFault.TheVariants.{Read}
use Rattle.playout_lists.specs.declared.streams.StreamFault.TheVariants.{Input}
use Rattle.playout_peers.specs.Wire.{Wire, LeavesAll}
use Rattle.playout_peers.specs.Peers.{Done, Ending, pieces_of, answers_of, asked_in, answers_in, ends_of, count_of}
use Rattle.playout_peers.specs.Peers.{are_well, lines_at, IsConnection}
use Rattle.playout_peers.specs.Turn.{IsOpenPeer}
use Rattle.playout_peers.specs.declared.peer.Peer.{Peer}
use Rattle.playout_peers.specs.declared.peer.Task.TheVariants.{Reads}
use Rattle.playout_peers.specs.declared.serving.Peers.{Peers}
use Rattle.playout_peers.specs.declared.serving.Knock.{Knock}
use Rattle.playout_peers.specs.declared.serving.Knock.TheVariants.{Came, Nobody, Failed}

-- this connection is open, at its place
abbrev pub IsAtPlace : List (Option Peer) → ℕ → Peer → Type 0
IsAtPlace places i peer = get_or places i None ≡ Some peer

-- every other place is as it was
abbrev pub KeepsOthers : ℕ → List (Option Peer) → List (Option Peer) → Type 0
KeepsOthers place old new = (i : ℕ) → i ≢ place → get_or new i None ≡ get_or old i None

-- so far nothing is known of it
pub record IsUnknown (n : ℕ) (done : List Done) (ends : List Ending) (first now : Wire) : Type 0 where
  pub pieces : pieces_of n done ≡ []
  pub answers : answers_of n done ≡ []
  pub ends_none : ends_of n ends ≡ []
  pub same : now ≡ first

-- what holds of the one at a place
pub record IsServing (peer : Peer) (done : List Done) (ends : List Ending) (first now : Wire) (accepted : ℕ) : Type 0
  where
    pub is_open : IsOpenPeer (pieces_of peer.connection.seat.number done) (answers_of peer.connection.seat.number done)
        first now peer
    pub ends_none : ends_of peer.connection.seat.number ends ≡ []
    pub known : peer.connection.seat.number < accepted

-- What was done so far, of connections that are open at these places and of those that have ended.
pub record Serving {S : Type 0} (is_clean : S → Type 0) (stands_for may_leave : S → Centre → Type 0)
    (leaves_sets : S → Type 0) (old new : S)
    (first now : ℕ → Wire) (accepted : ℕ) (peers : Peers) (told_old told_new : Told) : Type 0 where
  pub done : List Done
  pub ends : List Ending
  pub did : HasAnswered is_clean stands_for may_leave leaves_sets old new (asked_in done) (answers_in done)
  pub count : count_of ends ≡ peers.ended
  pub told : TellsAll told_old told_new (lines_at ends)
  pub well : peers.is_quiet ≡ are_well ends
  pub hushed : peers.is_quiet ≡ true → told_new ≡ told_old
  pub seated : (i : ℕ) (peer : Peer) → IsAtPlace peers.places.items i peer → IsServing peer done ends
      (first peer.connection.seat.number) (now peer.connection.seat.number) accepted
  pub apart : (i j : ℕ) (p q : Peer) → IsAtPlace peers.places.items i p → IsAtPlace peers.places.items j q
      → p.connection.seat.number ≡ q.connection.seat.number → i ≡ j
  pub rest : (n : ℕ) → IsConnection (pieces_of n done) (answers_of n done) (first n) (now n) (ends_of n ends)
      ⊎ ((i : ℕ) × (peer : Peer) × IsAtPlace peers.places.items i peer × (peer.connection.seat.number ≡ n))
  pub unknown : (n : ℕ) → accepted ≤ n → IsUnknown n done ends (first n) (now n)

-- what was served before goes on
abbrev pub GoesOn : {S : Type 0} → (S → Type 0) → (S → Centre → Type 0) → (S → Centre → Type 0) → (S → Type 0) → S → S
    → (ℕ → Wire) → (ℕ → Wire) → ℕ → ℕ → Peers → Peers → Told → Told → Type 0
GoesOn {S} is_clean stands_for may_leave leaves_sets old new before now accepted_old accepted_new peers_old peers_new
    told_old
    told_new =
    (begun : S) (first : ℕ → Wire) (told : Told)
    → Serving is_clean stands_for may_leave leaves_sets begun old first before accepted_old peers_old told told_old
    → Serving is_clean stands_for may_leave leaves_sets begun new first now accepted_new peers_new told told_new

-- a connection of which nothing was read
pub record IsNew (peer : Peer) (number : ℕ) : Type 0 where
  pub number_is : peer.connection.seat.number ≡ number
  pub nothing : peer.connection.pending.items ≡ []
  pub reads : peer.task ≡ Reads

-- what a knock left of what isn't at a place
pub record KeepsRest (old new : Peers) (quiet : Bool) : Type 0 where
  pub ended : new.ended ≡ old.ended
  pub quiet_is : new.is_quiet ≡ quiet

-- What came of a knock: a connection at this place, which was free; or nobody; or none can be accepted, which is said.
abbrev pub Admits : (ℕ → Wire) → (ℕ → Wire) → ℕ → ℕ → Peers → Peers → ℕ → Told → Told → Knock → Type 0
Admits before now accepted_old accepted_new old new place told_old told_new Came =
    (peer : Peer) × IsNew peer accepted_old × (get_or old.places.items place None ≡ None)
    × (get_or new.places.items place None ≡ Some peer) × KeepsOthers place old.places.items new.places.items
    × KeepsRest old new old.is_quiet × (accepted_new ≡ accepted_old + 1) × LeavesAll before now × (told_new ≡ told_old)
Admits before now accepted_old accepted_new old new place told_old told_new Nobody =
    (new ≡ old) × (accepted_new ≡ accepted_old) × LeavesAll before now × (told_new ≡ told_old)
Admits before now accepted_old accepted_new old new place told_old told_new Failed =
    (new.places.items ≡ old.places.items) × KeepsRest old new false × (accepted_new ≡ accepted_old)
    × LeavesAll before now × Tells told_old told_new (line_of (Stream (Input Read)))
