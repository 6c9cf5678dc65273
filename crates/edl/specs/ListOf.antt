-- The list of a text.
use Rattle.std.specs.Prelude.{◌≡◌, ℕ, ◌+◌, Bool, List, [], ◌∷◌, Option, Some, None, Result, Ok}
use Rattle.std.specs.List.{cons_option}
use Rattle.std.specs.Option.{option_or}
use Rattle.timecode.specs.declared.rates.Rate.{Rate}
use Rattle.channel_plan.specs.declared.fault.LineFault.{LineFault}
use Rattle.edl.specs.Text.{lines_of}
use Rattle.edl.specs.Meaning.{LineMeaning, Titled, Edited, meaning_of}
use Rattle.edl.specs.Entry.{EventEntry}
use Rattle.edl.specs.Notes.{notes_until_event, entry_of}
use Rattle.edl.specs.Faults.{first_fault}

abbrev pub title_in : Result LineMeaning LineFault → Option (List ℕ)
title_in (Ok (Titled text)) = Some text
title_in _ = None

-- the last title
unfoldable pub last_title : Rate → List (List ℕ) → Option (List ℕ)
last_title rate [] = None
last_title rate (line ∷ lines) = option_or (last_title rate lines) (title_in (meaning_of rate line))

-- the event of line n with its notes
abbrev pub entry_in : ℕ → Result LineMeaning LineFault → List (List ℕ) → Option EventEntry
entry_in n (Ok (Edited event)) notes = Some (entry_of n event notes)
entry_in n _ notes = None

-- the events on these lines, the first of which is line n
unfoldable pub events_from : Rate → ℕ → List (List ℕ) → List EventEntry
events_from rate n [] = []
events_from rate n (line ∷ lines) =
    cons_option (entry_in n (meaning_of rate line) (notes_until_event rate lines)) (events_from rate (n + 1) lines)

-- The list of a text: there is one just where no line has a fault. Notes before the first event are the head's.
pub record IsListOf (rate : Rate) (ignore : Bool) (text : List ℕ) (title : Option (List ℕ)) (head : List (List ℕ))
    (events : List EventEntry) : Type 0 where
  pub no_fault : first_fault rate ignore text ≡ None
  pub title_is : title ≡ last_title rate (lines_of text)
  pub head_is : head ≡ notes_until_event rate (lines_of text)
  pub events_are : events ≡ events_from rate 1 (lines_of text)
