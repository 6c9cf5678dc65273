-- A list from an input is checked, and what it holds is counted.
use Rattle.std.specs.Prelude.{◌≡◌, ℕ, ◌+◌, ◌-◌, false, List, [], ◌∷◌, ◌++◌, Option, Some, length, sum, map, filter}
use Rattle.std.specs.Prelude.{codes, decimal}
use Rattle.timecode.specs.declared.rates.Rate.{Rate}
use Rattle.edl.specs.Entry.{EventEntry, is_picture}
use Rattle.channel_plan.specs.declared.fault.ListFault.TheVariants as of_list
use Rattle.edl.specs.Faults.{first_fault}
use Rattle.edl.specs.Limits.{most_list_bytes}
use Rattle.edl.specs.ListOf.{IsListOf}
use Rattle.playout_lists.specs.declared.fault.Fault.{Fault}
use Rattle.playout_lists.specs.declared.fault.Fault.TheVariants.{Label, List as OfList, Refused, NoChannel, Open}
use Rattle.playout_lists.specs.declared.fault.Fault.TheVariants.{Listen, Stream}
use Rattle.playout_lists.specs.Streams.{ReadsAll, StreamHas}

abbrev pub picture_count : List EventEntry → ℕ
picture_count events = length (filter is_picture events)

abbrev pub note_count : List EventEntry → ℕ
note_count events = sum (map (λ event. length event.notes) events)

-- `events E picture P sound S notes K`, the notes of the head among them
abbrev pub counts_text : List (List ℕ) → List EventEntry → List ℕ
counts_text head events =
    codes "events " ++ (decimal (length events) ++ (codes " picture " ++ (decimal (picture_count events)
    ++ (codes " sound " ++ (decimal (length events - picture_count events)
    ++ (codes " notes " ++ decimal (length head + note_count events)))))))

-- and the line's end
abbrev pub counts_line : List (List ℕ) → List EventEntry → List ℕ
counts_line head events = counts_text head events ++ 10 ∷ []

-- the most bytes of a list, which are those of a body
abbrev pub list_limit : ℕ
list_limit = most_list_bytes

-- a text is a list, and this line counts what it holds
pub record ListTells (rate : Rate) (text line : List ℕ) : Type 0 where
  pub title : Option (List ℕ)
  pub head : List (List ℕ)
  pub events : List EventEntry
  pub is_list : IsListOf rate false text title head events
  pub line_is : line ≡ counts_line head events

-- All of the input is a list, and this line counts what it holds.
pub record ChecksInput (rate : Rate) (line : List ℕ) (readable_old readable_new : Option (List ℕ)) : Type 0 where
  pub text : List ℕ
  pub read : ReadsAll list_limit readable_old readable_new text
  pub tells : ListTells rate text line

-- why an input isn't counted: the first fault of its text, or one of the input or of the output
abbrev pub CheckHas : Rate → Option (List ℕ) → Option (List ℕ) → Fault → Type 0
CheckHas rate readable_old readable_new (OfList of_list.Unavailable) = Unit {0}
CheckHas rate readable_old readable_new (OfList (of_list.InLine line fault)) =
    (text : List ℕ) × ReadsAll list_limit readable_old readable_new text
    × (first_fault rate false text ≡ Some (of_list.InLine line fault))
CheckHas rate readable_old readable_new (Stream fault) = StreamHas list_limit readable_old readable_new fault
CheckHas rate readable_old readable_new (Label fault) = ⊥
CheckHas rate readable_old readable_new (Refused refusal) = ⊥
CheckHas rate readable_old readable_new Open = ⊥
CheckHas rate readable_old readable_new Listen = ⊥
CheckHas rate readable_old readable_new NoChannel = ⊥
