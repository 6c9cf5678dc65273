-- The events of a list from an input are printed.
use Rattle.std.specs.Prelude.{◌≡◌, ℕ, false, List, Option}
use Rattle.timecode.specs.declared.rates.Rate.{Rate}
use Rattle.edl.specs.Entry.{EventEntry}
use Rattle.edl.specs.ListOf.{IsListOf}
use Rattle.edl_lines.specs.Json.{json_lines}
use Rattle.edl_lines.specs.Csv.{csv_lines}
use Rattle.playout_args.specs.declared.words.EventForm.{EventForm}
use Rattle.playout_args.specs.declared.words.EventForm.TheVariants as form
use Rattle.playout_lists.specs.Checking.{list_limit}
use Rattle.playout_lists.specs.Streams.{ReadsAll}

-- the events in a form
abbrev pub events_text : EventForm → List EventEntry → List ℕ
events_text form.Json events = json_lines events
events_text form.Csv events = csv_lines events

-- All of the input is a list, and this text is its events.
pub record ListsInput (rate : Rate) (form : EventForm) (printed : List ℕ) (readable_old readable_new : Option (List ℕ))
    : Type 0 where
  pub text : List ℕ
  pub read : ReadsAll list_limit readable_old readable_new text
  pub title : Option (List ℕ)
  pub head : List (List ℕ)
  pub events : List EventEntry
  pub is_list : IsListOf rate false text title head events
  pub printed_is : printed ≡ events_text form events
