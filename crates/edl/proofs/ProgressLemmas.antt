-- How far a reader has come, line by line.
use Rattle.std.proofs.Common.{◌≡◌, ℕ, ◌+◌, Bool, true, false, cond, List, [], ◌∷◌, ◌++◌, length, Option, Some, None}
use Rattle.std.proofs.Common.{refl, sym, ap, ◌∙◌, arith}
use Rattle.std.specs.Prelude.{◌==◌, option_map, if◌then◌else◌}
use Rattle.std.specs.List.{cons_option, before_first, after_first}
use Rattle.std.proofs.lemmas.Bool.{eqb-true}
use Rattle.std.specs.Option.{option_or, option_to_list}
use Rattle.std.proofs.lemmas.List.{append_assoc, append-nil, length_push}
use Rattle.std.proofs.lemmas.List.Sums.{fold-append}
use Rattle.timecode.specs.declared.rates.Rate.{Rate}
use Rattle.channel_plan.specs.declared.fault.ListFault.{ListFault}
use Rattle.edl.specs.Text.{is_line_end, line_text, line_texts}
use Rattle.edl.specs.Meaning.{meaning_of}
use Rattle.edl.specs.Entry.{EventEntry}
use Rattle.edl.specs.Notes.{notes_until_event}
use Rattle.edl.specs.Faults.{counted_in, counts, fault_at, fault_in, first_fault_from}
use Rattle.edl.specs.ListOf.{entry_in, events_from, last_title, title_in}
use Rattle.edl.proofs.TextLemmas.{above_zero, line_texts-nil, line_texts-step}

option_or_assoc : {X : Type 0} (a b c : Option X) → option_or (option_or a b) c ≡ option_or a (option_or b c)
option_or_assoc None b c = refl
option_or_assoc (Some x) b c = refl

cons_option-append : {X : Type 0} (o : Option X) (old more : List X)
    → (old ++ option_to_list o) ++ more ≡ old ++ cons_option o more
cons_option-append {X = X} None old more = ap (λ (l : List X). l ++ more) (append-nil old)
cons_option-append (Some x) old more = append_assoc old (x ∷ []) more

-- What was found on the lines before, and what is on the rest, make up what is on all lines. No line before has a
-- fault.
pub record IsReadTo (rate : Rate) (ignore : Bool) (all before rest : List (List ℕ)) (line counted : ℕ)
    (title : Option (List ℕ)) (events : List EventEntry) : Type 0 where
  pub line_is : line ≡ length before
  pub counted_is : counted ≡ counted_in rate before
  pub faults_left : first_fault_from rate ignore before rest ≡ first_fault_from rate ignore [] all
  pub title_left : option_or (last_title rate rest) title ≡ last_title rate all
  pub events_left : events ++ events_from rate (line + 1) rest ≡ events_from rate 1 all

pub faults-step : (rate : Rate) (ignore : Bool) (before lines : List (List ℕ)) (line : List ℕ)
    → first_fault_from rate ignore before (line ∷ lines)
    ≡ option_or
    (option_map (fault_at (length before + 1))
    (fault_in ignore (counted_in rate before) (meaning_of rate line) (notes_until_event rate lines)))
    (first_fault_from rate ignore (before ++ line ∷ []) lines)
unfolding first_fault_from
faults-step rate ignore before lines line = refl

pub title-step : (rate : Rate) (lines : List (List ℕ)) (line : List ℕ)
    → last_title rate (line ∷ lines) ≡ option_or (last_title rate lines) (title_in (meaning_of rate line))
unfolding last_title
title-step rate lines line = refl

pub events-step : (rate : Rate) (n : ℕ) (lines : List (List ℕ)) (line : List ℕ)
    → events_from rate n (line ∷ lines)
    ≡ cons_option (entry_in n (meaning_of rate line) (notes_until_event rate lines)) (events_from rate (n + 1) lines)
unfolding events_from
events-step rate n lines line = refl

pub counted-step : (rate : Rate) (before : List (List ℕ)) (line : List ℕ)
    → counted_in rate (before ++ line ∷ []) ≡ counted_in rate before + cond (counts (meaning_of rate line)) 1 0
counted-step rate before line =
    fold-append (λ (n : ℕ) (text : List ℕ). n + cond (counts (meaning_of rate text)) 1 0) 0 before (line ∷ [])

-- A line without a fault: an event is added, a title takes the place of the one before, and all else changes nothing.
pub record TakesLine (rate : Rate) (ignore : Bool) (text : List ℕ) (lines : List (List ℕ)) (line counted after : ℕ)
    (title new_title : Option (List ℕ)) (old new : List EventEntry) : Type 0 where
  pub no_fault : fault_in ignore counted (meaning_of rate text) (notes_until_event rate lines) ≡ None
  pub counted_on : after ≡ counted + (if counts (meaning_of rate text) then 1 else 0)
  pub title_on : new_title ≡ option_or (title_in (meaning_of rate text)) title
  pub added : new ≡ old ++ option_to_list (entry_in (line + 1) (meaning_of rate text) (notes_until_event rate lines))

-- one line on
pub step : (rate : Rate) (ignore : Bool) (all before lines : List (List ℕ)) (text : List ℕ) (line counted after : ℕ)
    (title new_title : Option (List ℕ)) (old new : List EventEntry)
    → IsReadTo rate ignore all before (text ∷ lines) line counted title old
    → TakesLine rate ignore text lines line counted after title new_title old new
    → IsReadTo rate ignore all (before ++ text ∷ []) lines (line + 1) after new_title new
step rate ignore all before lines text line counted after title new_title old new h t = record {
  line_is = rw length_push (omega (arith, h.line_is));
  counted_is = t.counted_on ∙ rw (counted-step rate before text, h.counted_is) refl;
  faults_left =
      (sym (faults-step rate ignore before lines text ∙ rw (← h.counted_is, t.no_fault) refl)) ∙ h.faults_left;
  title_left =
      rw t.title_on
      (sym (option_or_assoc (last_title rate lines) (title_in (meaning_of rate text)) title)
      ∙ rw (← title-step rate lines text) h.title_left);
  events_left = rw (t.added, cons_option-append) (rw (← events-step rate (line + 1) lines text) h.events_left);
}

-- the first line with a fault
pub stop : (rate : Rate) (ignore : Bool) (all before lines : List (List ℕ)) (text : List ℕ) (line counted : ℕ)
    (title : Option (List ℕ)) (old : List EventEntry) (fault : ListFault)
    → IsReadTo rate ignore all before (text ∷ lines) line counted title old
    → option_map (fault_at (line + 1)) (fault_in ignore counted (meaning_of rate text) (notes_until_event rate lines))
    ≡ Some fault
    → first_fault_from rate ignore [] all ≡ Some fault
stop rate ignore all before lines text line counted title old fault h e =
    sym h.faults_left ∙ faults-step rate ignore before lines text ∙ rw (← h.counted_is, ← h.line_is, e) refl

pub faults-nil : (rate : Rate) (ignore : Bool) (before : List (List ℕ)) → first_fault_from rate ignore before [] ≡ None
unfolding first_fault_from
faults-nil rate ignore before = refl

pub title-nil : (rate : Rate) → last_title rate [] ≡ None
unfolding last_title
title-nil rate = refl

pub events-nil : (rate : Rate) (n : ℕ) → events_from rate n [] ≡ []
unfolding events_from
events-nil rate n = refl

-- no line has a fault, and this is what they say
pub record HasRead (rate : Rate) (ignore : Bool) (all : List (List ℕ)) (title : Option (List ℕ))
    (events : List EventEntry) : Type 0 where
  pub no_fault : first_fault_from rate ignore [] all ≡ None
  pub title_is : title ≡ last_title rate all
  pub events_are : events ≡ events_from rate 1 all

-- behind the last line
pub finish : (rate : Rate) (ignore : Bool) (all before : List (List ℕ)) (line counted : ℕ)
    (title : Option (List ℕ)) (events : List EventEntry)
    → IsReadTo rate ignore all before [] line counted title events → HasRead rate ignore all title events
finish rate ignore all before line counted title events h = record {
  no_fault = sym h.faults_left ∙ faults-nil rate ignore before;
  title_is = rw (title-nil rate) at h.title_left;
  events_are = sym (append-nil events) ∙ rw (events-nil rate (line + 1)) at h.events_left;
}

-- the next line of a text
pub lines_next : (rest first after text : List ℕ) → (length rest == 0) ≡ false → first ≡ before_first is_line_end rest
    → after ≡ after_first is_line_end rest → text ≡ line_text first → line_texts rest ≡ text ∷ line_texts after
lines_next rest first after text some f a t = rw (t, f, a) (line_texts-step rest (above_zero rest some))

-- a text without a line
pub no_line : (rest : List ℕ) → (length rest == 0) ≡ true → line_texts rest ≡ []
no_line [] e = line_texts-nil
no_line (b ∷ bs) e = absurd (omega (arith, eqb-true (length (b ∷ bs)) 0 e))
