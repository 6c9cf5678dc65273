-- Where the texts of a list stand.
use Rattle.std.proofs.Common.{◌≡◌, ℕ, ◌+◌, ◌<◌, Bool, true, false, List, [], ◌∷◌, ◌++◌, length, Result, Ok, Err, refl}
use Rattle.std.proofs.Common.{sym, ap, subst, ◌∙◌, arith}
use Rattle.std.specs.Prelude.{All}
use Rattle.std.proofs.lemmas.List.{append_assoc, length_push}
use Rattle.std.proofs.lemmas.List.Elements.{All-cons, All-nil}
use Rattle.std.specs.Prelude.{Option, None}
use Rattle.timecode.specs.declared.rates.Rate.{Rate}
use Rattle.channel_plan.specs.declared.fault.LineFault.{LineFault}
use Rattle.edl.specs.Text.{begins_event, fields_of, lines_of}
use Rattle.edl.specs.Line.{EventLine, field}
use Rattle.edl.specs.Meaning.{LineMeaning, Nothing, Titled, Moded, Edited, Noted, meaning_of}
use Rattle.edl.specs.Notes.{entry_of, note_in, notes_until_event}
use Rattle.edl.specs.ListOf.{IsListOf, entry_in, events_from}
use Rattle.edl.specs.Entry.{EventEntry}
use Rattle.edl.specs.Places.{IsLine, AreLinesBehind, StandsOnItsLine}
use Rattle.edl.proofs.NotesLemmas.{notes-event, notes-nil, notes-other}
use Rattle.edl.proofs.ProgressLemmas.{events-nil, events-step}
use Rattle.edl.proofs.MeaningLemmas.{meaning-edited, meaning-noted}
use Rattle.edl.proofs.OrderLemmas.{event_words_in}

none_behind : (source : List ℕ) (n : ℕ) → AreLinesBehind source n []
unfolding AreLinesBehind
none_behind source n = tt

one_behind : (source : List ℕ) (n k : ℕ) (text : List ℕ) (texts : List (List ℕ)) → n < k → IsLine source k text
    → AreLinesBehind source k texts
    → AreLinesBehind source n (text ∷ texts)
unfolding AreLinesBehind
one_behind source n k text texts lt line more = (k, lt, line, more)

earlier : (source : List ℕ) (n m : ℕ) (texts : List (List ℕ)) → n < m → AreLinesBehind source m texts
    → AreLinesBehind source n texts
unfolding AreLinesBehind
earlier source n m [] lt h = tt
earlier source n m (text ∷ texts) lt h = (h.0, omega (arith, h.1), h.2, h.3)

line_here : (source : List ℕ) (before : List (List ℕ)) (line : List ℕ) (lines : List (List ℕ))
    → lines_of source ≡ before ++ line ∷ lines
    → IsLine source (length before + 1) line
line_here source before line lines e = record { before = before; after = lines; lines_are = e; number_is = refl }

-- one line on
line_on : (source : List ℕ) (before : List (List ℕ)) (line : List ℕ) (lines : List (List ℕ))
    → lines_of source ≡ before ++ line ∷ lines
    → lines_of source ≡ (before ++ line ∷ []) ++ lines
line_on source before line lines e = e ∙ sym (append_assoc before (line ∷ []) lines)

-- the notes on the lines behind these
notes_stand : (rate : Rate) (source : List ℕ) (before lines : List (List ℕ)) → lines_of source ≡ before ++ lines
    → AreLinesBehind source (length before) (notes_until_event rate lines)
notes_stand rate source before [] e =
    let P : List (List ℕ) → Type 0 = AreLinesBehind source (length before) in
    subst P (sym (notes-nil rate)) (none_behind source (length before))
notes_stand rate source before (line ∷ lines) e =
    let Q : ℕ → Type 0 = λ n. AreLinesBehind source n (notes_until_event rate lines) in
    let more = notes_stand rate source (before ++ line ∷ []) lines (line_on source before line lines e) in
    at (subst Q (length_push before line) more) (begins_event line) refl (meaning_of rate line) refl
  where
    P : List (List ℕ) → Type 0
    P = AreLinesBehind source (length before)

    skipped : AreLinesBehind source (length before + 1) (notes_until_event rate lines) → begins_event line ≡ false
        → note_in (meaning_of rate line) ≡ None → P (notes_until_event rate (line ∷ lines))
    skipped behind b none =
        subst P (sym (notes-other rate line lines b ∙ rw none refl))
        (earlier source (length before) (length before + 1) (notes_until_event rate lines) (omega arith) behind)

    at : AreLinesBehind source (length before + 1) (notes_until_event rate lines) → (v : Bool) → begins_event line ≡ v
        → (m : Result LineMeaning LineFault) → meaning_of rate line ≡ m → P (notes_until_event rate (line ∷ lines))
    at behind true b m f = subst P (sym (notes-event rate line lines b)) (none_behind source (length before))
    at behind false b (Ok (Noted t)) f =
        let Q : List ℕ → Type 0 = λ l. IsLine source (length before + 1) l in
        subst P (sym (notes-other rate line lines b ∙ rw f refl))
        (one_behind source (length before) (length before + 1) t (notes_until_event rate lines) (omega arith)
        (subst Q (meaning-noted rate line t f) (line_here source before line lines e)) behind)
    at behind false b (Ok Nothing) f = skipped behind b (rw f refl)
    at behind false b (Ok (Titled t)) f = skipped behind b (rw f refl)
    at behind false b (Ok Moded) f = skipped behind b (rw f refl)
    at behind false b (Ok (Edited event)) f = skipped behind b (rw f refl)
    at behind false b (Err fault) f = skipped behind b (rw f refl)

-- an event on this line
event_stands : (rate : Rate) (source : List ℕ) (n : ℕ) (line : List ℕ) (event : EventLine) (notes : List (List ℕ))
    → meaning_of rate line ≡ Ok (Edited event) → IsLine source n line → AreLinesBehind source n notes
    → StandsOnItsLine source (entry_of n event notes)
event_stands rate source n line event notes f here behind =
    let w = event_words_in rate (fields_of line) event (meaning-edited rate line event f).1 in record {
      line = line;
      line_is = here;
      reel = sym (ap (λ (l : List (List ℕ)). field l 1) w.fields_are);
      channels = sym (ap (λ (l : List (List ℕ)). field l 2) w.fields_are);
      kind = sym (ap (λ (l : List (List ℕ)). field l 3) w.fields_are);
      notes = behind;
    }

-- the events on the lines behind these
events_stand : (rate : Rate) (source : List ℕ) (before lines : List (List ℕ)) → lines_of source ≡ before ++ lines
    → All (StandsOnItsLine source) (events_from rate (length before + 1) lines)
events_stand rate source before [] e =
    subst (All (StandsOnItsLine source)) (sym (events-nil rate (length before + 1))) (All-nil (StandsOnItsLine source))
events_stand rate source before (line ∷ lines) e =
    let Q : ℕ → Type 0 = λ n. All (StandsOnItsLine source) (events_from rate (n + 1) lines) in
    let more = events_stand rate source (before ++ line ∷ []) lines (line_on source before line lines e) in
    let count : length (before ++ line ∷ []) ≡ length before + 1 = length_push before line in
    at (subst Q count more) (meaning_of rate line) refl
  where
    P : List EventEntry → Type 0
    P = All (StandsOnItsLine source)

    notes : AreLinesBehind source (length before + 1) (notes_until_event rate lines)
    notes =
        let Q : ℕ → Type 0 = λ n. AreLinesBehind source n (notes_until_event rate lines) in
        let more = notes_stand rate source (before ++ line ∷ []) lines (line_on source before line lines e) in
        subst Q (length_push before line) more

    other : P (events_from rate (length before + 1 + 1) lines)
        → entry_in (length before + 1) (meaning_of rate line) (notes_until_event rate lines) ≡ None
        → P (events_from rate (length before + 1) (line ∷ lines))
    other behind none =
        let same : events_from rate (length before + 1) (line ∷ lines) ≡ events_from rate (length before + 1 + 1) lines
        = rw (events-step rate (length before + 1) lines line, none) refl in
        subst P (sym same) behind

    at : P (events_from rate (length before + 1 + 1) lines) → (m : Result LineMeaning LineFault)
        → meaning_of rate line ≡ m
        → P (events_from rate (length before + 1) (line ∷ lines))
    at behind (Ok (Edited event)) f =
        let entry : EventEntry = entry_of (length before + 1) event (notes_until_event rate lines) in
        let same : events_from rate (length before + 1) (line ∷ lines)
        ≡ entry ∷ events_from rate (length before + 1 + 1) lines
        = rw (events-step rate (length before + 1) lines line, f) refl in
        subst P (sym same)
        (All-cons (StandsOnItsLine source) entry (events_from rate (length before + 1 + 1) lines)
        (event_stands rate source (length before + 1) line event (notes_until_event rate lines) f
        (line_here source before line lines e) notes) behind)
    at behind (Ok Nothing) f = other behind (rw f refl)
    at behind (Ok (Titled t)) f = other behind (rw f refl)
    at behind (Ok Moded) f = other behind (rw f refl)
    at behind (Ok (Noted t)) f = other behind (rw f refl)
    at behind (Err fault) f = other behind (rw f refl)

-- the texts of a list stand on their lines
pub list_stands : (rate : Rate) (ignore : Bool) (text : List ℕ) (title : Option (List ℕ)) (head : List (List ℕ))
    (events : List EventEntry)
    → IsListOf rate ignore text title head events → AreLinesBehind text 0 head × All (StandsOnItsLine text) events
list_stands rate ignore text title head events h =
    rw (h.head_is, h.events_are)
    (notes_stand rate text [] (lines_of text) refl, events_stand rate text [] (lines_of text) refl)
