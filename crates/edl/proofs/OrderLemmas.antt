-- Texts one behind another.
use Rattle.std.proofs.Common.{◌≡◌, ℕ, zero, suc, ◌+◌, ◌-◌, ◌<◌, ◌≤◌, Bool, true, false, not, cond, List, [], ◌∷◌, ◌++◌}
use Rattle.std.proofs.Common.{length, take, drop, Option, Some, None, Result, Ok, Err, refl, sym, ap, subst, ◌∙◌, arith}
use Rattle.std.specs.Prelude.{◌==◌, nat_eq, filter, ok_or, IfSome}
use Rattle.std.specs.Option.{option_or}
use Rattle.std.specs.List.{before_first, after_first, position_or_len, prefix_len, suffix_len, slice_split, onto_first}
use Rattle.std.specs.List.{ends_with, starts_with}
use Rattle.std.specs.Str.Parse.{digits_value}
use Rattle.std.proofs.lemmas.List.{append_assoc, append-nil, take-append-drop, drop-drop}
use Rattle.timecode.specs.declared.rates.Rate.{Rate}
use Rattle.channel_plan.specs.declared.fault.LineFault.{LineFault}
use Rattle.edl.specs.Text.{after_mark, begins_event, lines_of, fields_of, is_blank, is_line_end, line_text, line_texts}
use Rattle.edl.specs.Text.{without_cr, after_blanks}
use Rattle.std.proofs.lemmas.List.Splits.{slice_split-cons_yes, slice_split-cons_no}
use Rattle.channel_plan.specs.declared.fault.LineFault.TheVariants.{EventNumber, EditKind, FieldCount}
use Rattle.edl.specs.declared.event.Places.{Places}
use Rattle.edl.specs.Line.{EditWords, EventLine, edit, edit_of, event_line, event_of, event_of_fields, field, and_then}
use Rattle.edl.specs.Meaning.{LineMeaning, Nothing, Titled, Moded, Edited, Noted, meaning_of}
use Rattle.edl.specs.Notes.{entry_of, note_in, notes_until_event}
use Rattle.edl.specs.ListOf.{IsListOf, entry_in, events_from, last_title, title_in}
use Rattle.edl.specs.Entry.{EventEntry}
use Rattle.edl.specs.InOrder.{IsInOrder, texts_of_events}
use Rattle.edl.proofs.TextLemmas.{after_line_shorter, line_texts-nil, line_texts-step}
use Rattle.edl.proofs.NotesLemmas.{notes-event, notes-nil, notes-other}
use Rattle.edl.proofs.ProgressLemmas.{events-nil, events-step, title-nil, title-step}
use Rattle.edl.proofs.MeaningLemmas.{meaning-edited, meaning-noted, meaning-titled}

none_in : (s : List ℕ) → IsInOrder s []
unfolding IsInOrder
none_in s = tt

one_in : (s before text after : List ℕ) (texts : List (List ℕ)) → s ≡ before ++ (text ++ after) → IsInOrder after texts
    → IsInOrder s (text ∷ texts)
unfolding IsInOrder
one_in s before text after texts e h = (before, after, e, h)

-- where the first of them stands
pub record HasFirst (s text : List ℕ) (texts : List (List ℕ)) : Type 0 where
  pub before : List ℕ
  pub after : List ℕ
  pub parts : s ≡ before ++ (text ++ after)
  pub others : IsInOrder after texts

first_of : (s text : List ℕ) (texts : List (List ℕ)) → IsInOrder s (text ∷ texts) → HasFirst s text texts
unfolding IsInOrder
first_of s text texts h = record { before = h.0; after = h.1; parts = h.2; others = h.3 }

-- more in front, and more behind
later : (p s : List ℕ) (texts : List (List ℕ)) → IsInOrder s texts → IsInOrder (p ++ s) texts
later p s [] h = none_in (p ++ s)
later p s (t ∷ ts) h =
    let f = first_of s t ts h in
    one_in (p ++ s) (p ++ f.before) t f.after ts
    (ap (λ (l : List ℕ). p ++ l) f.parts ∙ sym (append_assoc p f.before (t ++ f.after))) f.others

longer : (s q : List ℕ) (texts : List (List ℕ)) → IsInOrder s texts → IsInOrder (s ++ q) texts
longer s q [] h = none_in (s ++ q)
longer s q (t ∷ ts) h =
    let f = first_of s t ts h in
    one_in (s ++ q) f.before t (f.after ++ q) ts
    (ap (λ (l : List ℕ). l ++ q) f.parts ∙ append_assoc f.before (t ++ f.after) q
    ∙ ap (λ (l : List ℕ). f.before ++ l) (append_assoc t f.after q))
    (longer f.after q ts f.others)

-- behind one another
joined : (s r : List ℕ) (xs ys : List (List ℕ)) → IsInOrder s xs → IsInOrder r ys → IsInOrder (s ++ r) (xs ++ ys)
joined s r [] ys h g = later s r ys g
joined s r (t ∷ ts) ys h g =
    let f = first_of s t ts h in
    one_in (s ++ r) f.before t (f.after ++ r) (ts ++ ys)
    (ap (λ (l : List ℕ). l ++ r) f.parts ∙ append_assoc f.before (t ++ f.after) r
    ∙ ap (λ (l : List ℕ). f.before ++ l) (append_assoc t f.after r))
    (joined f.after r ts ys f.others g)

-- without the first, and without those in front
without_first : (s t : List ℕ) (ts : List (List ℕ)) → IsInOrder s (t ∷ ts) → IsInOrder s ts
without_first s t ts h =
    let f = first_of s t ts h in
    let P : List ℕ → Type 0 = λ l. IsInOrder l ts in
    subst P (append_assoc f.before t f.after ∙ sym f.parts) (later (f.before ++ t) f.after ts f.others)

without_front : (s : List ℕ) (xs ys : List (List ℕ)) → IsInOrder s (xs ++ ys) → IsInOrder s ys
without_front s [] ys h = h
without_front s (x ∷ xs) ys h = without_front s xs ys (without_first s x (xs ++ ys) h)

-- the front alone
front_of : (s : List ℕ) (xs ys : List (List ℕ)) → IsInOrder s (xs ++ ys) → IsInOrder s xs
front_of s [] ys h = none_in s
front_of s (x ∷ xs) ys h =
    let f = first_of s x (xs ++ ys) h in
    one_in s f.before x f.after xs f.parts (front_of f.after xs ys f.others)

-- those that pass a test
filtered : (p : List ℕ → Bool) (s : List ℕ) (xs : List (List ℕ)) → IsInOrder s xs → IsInOrder s (filter p xs)
filtered p s [] h = none_in s
filtered p s (x ∷ xs) h =
    at (p x) (first_of s x xs h) (filtered p (first_of s x xs h).after xs (first_of s x xs h).others)
  where
    at : (v : Bool) (f : HasFirst s x xs) → IsInOrder f.after (filter p xs)
        → IsInOrder s (cond v (x ∷ filter p xs) (filter p xs))
    at true f g = one_in s f.before x f.after (filter p xs) f.parts g
    at false f g =
        let P : List ℕ → Type 0 = λ l. IsInOrder l (filter p xs) in
        subst P (append_assoc f.before x f.after ∙ sym f.parts) (later (f.before ++ x) f.after (filter p xs) g)

-- of a part of the source
of_front : (n : ℕ) (s : List ℕ) (texts : List (List ℕ)) → IsInOrder (take n s) texts → IsInOrder s texts
of_front n s texts h =
    let P : List ℕ → Type 0 = λ l. IsInOrder l texts in
    subst P (take-append-drop n s) (longer (take n s) (drop n s) texts h)

of_rest : (n : ℕ) (s : List ℕ) (texts : List (List ℕ)) → IsInOrder (drop n s) texts → IsInOrder s texts
of_rest n s texts h =
    let P : List ℕ → Type 0 = λ l. IsInOrder l texts in
    subst P (take-append-drop n s) (later (take n s) (drop n s) texts h)

-- ---- fields

-- the parts of a list: the first at its start, and the others behind it
record IsCut (p : ℕ → Bool) (s : List ℕ) : Type 0 where
  first : List ℕ
  others : List (List ℕ)
  after : List ℕ
  parts : slice_split p s ≡ first ∷ others
  begins : s ≡ first ++ after
  order : IsInOrder after others

cut : (p : ℕ → Bool) (s : List ℕ) → IsCut p s
cut p [] = record { first = []; others = []; after = []; parts = refl; begins = refl; order = none_in [] }
cut p (x ∷ xs) = at (p x) refl (cut p xs)
  where
    at : (v : Bool) → p x ≡ v → IsCut p xs → IsCut p (x ∷ xs)
    at true e c = record {
      first = [];
      others = c.first ∷ c.others;
      after = x ∷ xs;
      parts = slice_split-cons_yes p x xs e ∙ ap (λ (l : List (List ℕ)). [] ∷ l) c.parts;
      begins = refl;
      order = one_in (x ∷ xs) (x ∷ []) c.first c.after c.others (ap (λ (l : List ℕ). x ∷ l) c.begins) c.order;
    }
    at false e c = record {
      first = x ∷ c.first;
      others = c.others;
      after = c.after;
      parts = slice_split-cons_no p x xs e ∙ ap (onto_first x) c.parts;
      begins = ap (λ (l : List ℕ). x ∷ l) c.begins;
      order = c.order;
    }

parts_in_order : (p : ℕ → Bool) (s : List ℕ) → IsInOrder s (slice_split p s)
parts_in_order p s =
    let c = cut p s in
    let P : List (List ℕ) → Type 0 = λ l. IsInOrder s l in
    subst P (sym c.parts) (one_in s [] c.first c.after c.others c.begins c.order)

fields_in_order : (line : List ℕ) → IsInOrder line (fields_of line)
unfolding fields_of
fields_in_order line =
    filtered (λ field. not (length field == 0)) line (slice_split is_blank line) (parts_in_order is_blank line)

without_cr_order : (line : List ℕ) (texts : List (List ℕ)) → IsInOrder (without_cr line) texts → IsInOrder line texts
without_cr_order line texts h = at (ends_with nat_eq line (13 ∷ [])) h
  where
    at : (v : Bool) → IsInOrder (cond v (take (length line - 1) line) line) texts → IsInOrder line texts
    at true h = of_front (length line - 1) line texts h
    at false h = h

-- what a line says stands in it
line_text_order : (line : List ℕ) (texts : List (List ℕ)) → IsInOrder (line_text line) texts → IsInOrder line texts
unfolding line_text
line_text_order line texts h =
    without_cr_order line texts (of_rest (prefix_len is_blank (without_cr line)) (without_cr line) texts
    (of_front (length (after_blanks (without_cr line)) - suffix_len is_blank (after_blanks (without_cr line)))
    (after_blanks (without_cr line)) texts h))

-- ---- an event's fields

chosen : (b : Bool) (x y : EditWords) → cond b (Some x) None ≡ Some y → x ≡ y
chosen true x y h = cc h
chosen false x y h = cc h

chosen_or : (b c : Bool) (x y e : EditWords) → cond b (Some x) (cond c (Some y) None) ≡ Some e → x.kind ≡ y.kind
    → x.kind ≡ e.kind
chosen_or true c x y e h same = ap (λ (w : EditWords). w.kind) (chosen true x e h)
chosen_or false c x y e h same = same ∙ ap (λ (w : EditWords). w.kind) (chosen c y e h)

-- the kind is the first of its words
edit_kind : (kind : List ℕ) (more : List (List ℕ)) (e : EditWords) → edit_of (kind ∷ more) ≡ Some e → kind ≡ e.kind
unfolding edit_of
edit_kind kind [] e h = ap (λ (w : EditWords). w.kind) (chosen _ (edit kind None) e h)
edit_kind kind (word ∷ []) e h = chosen_or _ _ (edit kind None) (edit kind (Some (digits_value 10 word))) e h refl
edit_kind kind (word ∷ other ∷ []) e h = ap (λ (w : EditWords). w.kind) (chosen _ (edit kind None) e h)
edit_kind kind (word ∷ other ∷ third ∷ more) e h = cc h

edit_none : (e : EditWords) → edit_of [] ≡ Some e → ⊥
unfolding edit_of
edit_none e h = cc h

-- what an event's line was read from
record IsReadFrom (reel channels : List ℕ) (words : Option EditWords) (e : EventLine) : Type 0 where
  reel_is : e.reel ≡ reel
  channels_are : e.channels ≡ channels
  edit_is : words ≡ Some e.edit

from_parts : (range : Bool) (number : Option ℕ) (words : Option EditWords) (places : Result Places LineFault)
    (reel channels : List ℕ) (e : EventLine)
    → cond range
    (and_then (ok_or number EventNumber)
    (λ n. and_then (ok_or words EditKind) (λ w. and_then places (λ p. Ok (event_line n reel channels w p)))))
    (Err FieldCount) ≡ Ok e
    → IsReadFrom reel channels words e
from_parts false number words places reel channels e h = cc h
from_parts true None words places reel channels e h = cc h
from_parts true (Some n) None places reel channels e h = cc h
from_parts true (Some n) (Some w) (Err fault) reel channels e h = cc h
from_parts true (Some n) (Some w) (Ok p) reel channels e h =
    let same : event_line n reel channels w p ≡ e = cc h in record {
      reel_is = sym (ap (λ (l : EventLine). l.reel) same);
      channels_are = sym (ap (λ (l : EventLine). l.channels) same);
      edit_is = ap (λ (l : EventLine). Some l.edit) same;
    }

read_from : (rate : Rate) (fs : List (List ℕ)) (e : EventLine) → event_of_fields rate fs ≡ Ok e
    → IsReadFrom (field fs 1) (field fs 2) (edit_of (take (length fs - 7) (drop 3 fs))) e
unfolding event_of_fields
read_from rate fs e h = from_parts _ _ _ _ _ _ e h

words_kind : (n : ℕ) (d : List ℕ) (rest : List (List ℕ)) (e : EditWords) → edit_of (take n (d ∷ rest)) ≡ Some e
    → d ≡ e.kind
words_kind zero d rest e h = absurd (edit_none e h)
words_kind (suc n) d rest e h = edit_kind d (take n rest) e h

no_words : (n : ℕ) (e : EditWords) → edit_of (take n []) ≡ Some e → ⊥
no_words zero e h = edit_none e h
no_words (suc n) e h = edit_none e h

-- the second, third and fourth field of an event's line
pub record HasWords (fs : List (List ℕ)) (e : EventLine) : Type 0 where
  pub number : List ℕ
  pub more : List (List ℕ)
  pub fields_are : fs ≡ number ∷ e.reel ∷ e.channels ∷ e.edit.kind ∷ more

pub event_words_in : (rate : Rate) (fs : List (List ℕ)) (e : EventLine) → event_of_fields rate fs ≡ Ok e → HasWords fs e
event_words_in rate [] e h = absurd (no_words (length {A = List ℕ} [] - 7) e.edit (read_from rate [] e h).edit_is)
event_words_in rate (a ∷ []) e h =
    absurd (no_words (length {A = List ℕ} (a ∷ []) - 7) e.edit (read_from rate (a ∷ []) e h).edit_is)
event_words_in rate (a ∷ b ∷ []) e h =
    absurd (no_words (length {A = List ℕ} (a ∷ b ∷ []) - 7) e.edit (read_from rate (a ∷ b ∷ []) e h).edit_is)
event_words_in rate (a ∷ b ∷ c ∷ []) e h =
    absurd (no_words (length {A = List ℕ} (a ∷ b ∷ c ∷ []) - 7) e.edit (read_from rate (a ∷ b ∷ c ∷ []) e h).edit_is)
event_words_in rate (a ∷ b ∷ c ∷ d ∷ rest) e h =
    let r = read_from rate (a ∷ b ∷ c ∷ d ∷ rest) e h in
    let kind = words_kind (length (a ∷ b ∷ c ∷ d ∷ rest) - 7) d rest e.edit r.edit_is in
    record { number = a; more = rest; fields_are = rw (r.reel_is, r.channels_are, ← kind) refl }

event_fields_order : (rate : Rate) (s : List ℕ) (fs : List (List ℕ)) (e : EventLine) → event_of_fields rate fs ≡ Ok e
    → IsInOrder s fs
    → IsInOrder s (e.reel ∷ e.channels ∷ e.edit.kind ∷ [])
event_fields_order rate s fs e h order =
    let w = event_words_in rate fs e h in
    let P : List (List ℕ) → Type 0 = λ l. IsInOrder s l in
    front_of s (e.reel ∷ e.channels ∷ e.edit.kind ∷ []) w.more
    (without_first s w.number (e.reel ∷ e.channels ∷ e.edit.kind ∷ w.more) (subst P w.fields_are order))

event_order : (rate : Rate) (line : List ℕ) (e : EventLine) → event_of rate line ≡ Ok e
    → IsInOrder line (e.reel ∷ e.channels ∷ e.edit.kind ∷ [])
event_order rate line e h = event_fields_order rate line (fields_of line) e h (fields_in_order line)

-- ---- lines

-- the texts of these lines, the first of which is line n
abbrev texts_from : Rate → ℕ → List (List ℕ) → List (List ℕ)
texts_from rate n lines = notes_until_event rate lines ++ texts_of_events (events_from rate n lines)

-- a line in front that gives no text
silent : (rate : Rate) (n : ℕ) (text : List ℕ) (lines : List (List ℕ)) → begins_event text ≡ false
    → note_in (meaning_of rate text) ≡ None → entry_in n (meaning_of rate text) (notes_until_event rate lines) ≡ None
    → texts_from rate n (text ∷ lines) ≡ texts_from rate (n + 1) lines
silent rate n text lines e no_note no_entry =
    rw (notes-other rate text lines e, events-step rate n lines text, no_note, no_entry) refl

-- the line of an event, which may have a fault
unread : (rate : Rate) (n : ℕ) (text : List ℕ) (lines : List (List ℕ)) → begins_event text ≡ true
    → entry_in n (meaning_of rate text) (notes_until_event rate lines) ≡ None
    → texts_from rate n (text ∷ lines) ≡ texts_of_events (events_from rate (n + 1) lines)
unread rate n text lines e no_entry = rw (notes-event rate text lines e, events-step rate n lines text, no_entry) refl

read_event : (rate : Rate) (n : ℕ) (text : List ℕ) (lines : List (List ℕ)) (event : EventLine)
    → begins_event text ≡ true
    → entry_in n (meaning_of rate text) (notes_until_event rate lines)
    ≡ Some (entry_of n event (notes_until_event rate lines))
    → texts_from rate n (text ∷ lines)
    ≡ (event.reel ∷ event.channels ∷ event.edit.kind ∷ []) ++ texts_from rate (n + 1) lines
read_event rate n text lines event e entry =
    rw (notes-event rate text lines e, events-step rate n lines text, entry) refl

read_note : (rate : Rate) (n : ℕ) (text : List ℕ) (lines : List (List ℕ)) (note : List ℕ) → begins_event text ≡ false
    → note_in (meaning_of rate text) ≡ Some note
    → entry_in n (meaning_of rate text) (notes_until_event rate lines) ≡ None
    → texts_from rate n (text ∷ lines) ≡ (note ∷ []) ++ texts_from rate (n + 1) lines
read_note rate n text lines note e is_note no_entry =
    rw (notes-other rate text lines e, events-step rate n lines text, is_note, no_entry) refl

-- one line in front
one_line : (rate : Rate) (n : ℕ) (text : List ℕ) (lines : List (List ℕ)) (source after : List ℕ)
    → ((texts : List (List ℕ)) → IsInOrder text texts → IsInOrder source texts)
    → IsInOrder after (texts_from rate (n + 1) lines) → IsInOrder (source ++ after) (texts_from rate n (text ∷ lines))
one_line rate n text lines source after part h = at (begins_event text) refl (meaning_of rate text) refl
  where
    whole : IsInOrder text (text ∷ [])
    whole = one_in text [] text [] [] (sym (append-nil text)) (none_in [])

    P : List (List ℕ) → Type 0
    P = λ l. IsInOrder (source ++ after) l

    quiet : begins_event text ≡ false → note_in (meaning_of rate text) ≡ None
        → entry_in n (meaning_of rate text) (notes_until_event rate lines) ≡ None
        → IsInOrder (source ++ after) (texts_from rate n (text ∷ lines))
    quiet e no_note no_entry =
        subst P (sym (silent rate n text lines e no_note no_entry))
        (later source after (texts_from rate (n + 1) lines) h)

    faulty : begins_event text ≡ true → entry_in n (meaning_of rate text) (notes_until_event rate lines) ≡ None
        → IsInOrder (source ++ after) (texts_from rate n (text ∷ lines))
    faulty e no_entry =
        subst P (sym (unread rate n text lines e no_entry))
        (later source after (texts_of_events (events_from rate (n + 1) lines))
        (without_front after (notes_until_event rate lines) (texts_of_events (events_from rate (n + 1) lines)) h))

    at : (v : Bool) → begins_event text ≡ v → (m : Result LineMeaning LineFault) → meaning_of rate text ≡ m
        → IsInOrder (source ++ after) (texts_from rate n (text ∷ lines))
    at true e (Ok (Edited event)) f =
        let entry : entry_in n (meaning_of rate text) (notes_until_event rate lines)
        ≡ Some (entry_of n event (notes_until_event rate lines)) = rw f refl in
        subst P (sym (read_event rate n text lines event e entry))
        (joined source after (event.reel ∷ event.channels ∷ event.edit.kind ∷ []) (texts_from rate (n + 1) lines)
        (part (event.reel ∷ event.channels ∷ event.edit.kind ∷ [])
        (event_order rate text event (meaning-edited rate text event f).1)) h)
    at true e (Ok Nothing) f = faulty e (rw f refl)
    at true e (Ok (Titled t)) f = faulty e (rw f refl)
    at true e (Ok Moded) f = faulty e (rw f refl)
    at true e (Ok (Noted t)) f = faulty e (rw f refl)
    at true e (Err fault) f = faulty e (rw f refl)
    at false e (Ok (Edited event)) f = let yes = (meaning-edited rate text event f).0 in cc (sym yes ∙ e)
    at false e (Ok (Noted t)) f =
        let same = meaning-noted rate text t f in
        let Q : List ℕ → Type 0 = λ l. IsInOrder text (l ∷ []) in
        subst P (sym (read_note rate n text lines t e (rw f refl) (rw f refl)))
        (joined source after (t ∷ []) (texts_from rate (n + 1) lines) (part (t ∷ []) (subst Q same whole)) h)
    at false e (Ok Nothing) f = quiet e (rw f refl) (rw f refl)
    at false e (Ok (Titled t)) f = quiet e (rw f refl) (rw f refl)
    at false e (Ok Moded) f = quiet e (rw f refl) (rw f refl)
    at false e (Err fault) f = quiet e (rw f refl) (rw f refl)

no_lines : (rate : Rate) (n : ℕ) (bs : List ℕ) → line_texts bs ≡ [] → IsInOrder bs (texts_from rate n (line_texts bs))
no_lines rate n bs e = rw (e, notes-nil rate, events-nil rate n) (none_in bs)

-- the texts on all lines, of at most so many bytes
order_within : (most n : ℕ) (rate : Rate) (bs : List ℕ) → length bs ≤ most
    → IsInOrder bs (texts_from rate n (line_texts bs))
order_within most n rate [] le = no_lines rate n [] line_texts-nil
order_within zero n rate (b ∷ bs) le = absurd (omega arith)
order_within (suc most) n rate (b ∷ bs) le =
    let some : 0 < length (b ∷ bs) = omega arith in
    let first : List ℕ = before_first is_line_end (b ∷ bs) in
    let after : List ℕ = after_first is_line_end (b ∷ bs) in
    let rest : List ℕ = drop (position_or_len is_line_end (b ∷ bs)) (b ∷ bs) in
    let more : IsInOrder after (texts_from rate (n + 1) (line_texts after)) =
    order_within most (n + 1) rate after (omega (arith, after_line_shorter (b ∷ bs) some)) in
    let behind : IsInOrder rest (texts_from rate (n + 1) (line_texts after)) =
    of_rest 1 rest (texts_from rate (n + 1) (line_texts after)) (rw drop-drop more) in
    let whole =
    one_line rate n (line_text first) (line_texts after) first rest (λ texts h. line_text_order first texts h)
    behind in
    rw (line_texts-step (b ∷ bs) some) (rw take-append-drop at whole)

-- the texts of a list's notes and events are in order
pub list_in_order : (rate : Rate) (text : List ℕ)
    → IsInOrder text (notes_until_event rate (lines_of text) ++ texts_of_events (events_from rate 1 (lines_of text)))
list_in_order rate text = marked (starts_with nat_eq text (0xef ∷ 0xbb ∷ 0xbf ∷ [])) refl
  where
    marked : (v : Bool) → starts_with nat_eq text (0xef ∷ 0xbb ∷ 0xbf ∷ []) ≡ v
        → IsInOrder text (texts_from rate 1 (lines_of text))
    marked true e =
        let mark : after_mark text ≡ drop 3 text = rw e refl in
        rw mark
        (of_rest 3 text (texts_from rate 1 (line_texts (drop 3 text)))
        (order_within (length (drop 3 text)) 1 rate (drop 3 text) (omega arith)))
    marked false e =
        let mark : after_mark text ≡ text = rw e refl in
        rw mark (order_within (length text) 1 rate text (omega arith))

pub in_order_of_list : (rate : Rate) (ignore : Bool) (text : List ℕ) (title : Option (List ℕ)) (head : List (List ℕ))
    (events : List EventEntry)
    → IsListOf rate ignore text title head events → IsInOrder text (head ++ texts_of_events events)
in_order_of_list rate ignore text title head events h = rw (h.head_is, h.events_are) (list_in_order rate text)

-- ---- titles

title_line : (rate : Rate) (line text : List ℕ) → title_in (meaning_of rate line) ≡ Some text
    → IsInOrder line (text ∷ [])
title_line rate line text h = at (meaning_of rate line) refl h
  where
    at : (m : Result LineMeaning LineFault) → meaning_of rate line ≡ m → title_in m ≡ Some text
        → IsInOrder line (text ∷ [])
    at (Ok (Titled t)) f h =
        let named = meaning-titled rate line t f in
        let same : t ≡ text = cc h in
        let tail : List ℕ = drop 6 line in
        let rest : IsInOrder (after_blanks tail) (after_blanks tail ∷ []) =
        one_in (after_blanks tail) [] (after_blanks tail) [] [] (sym (append-nil (after_blanks tail))) (none_in []) in
        let part =
        of_rest 6 line (after_blanks tail ∷ [])
        (of_rest (prefix_len is_blank tail) tail (after_blanks tail ∷ []) rest) in
        let Q : List ℕ → Type 0 = λ l. IsInOrder line (l ∷ []) in
        subst Q (named ∙ same) part
    at (Ok Nothing) f h = cc h
    at (Ok Moded) f h = cc h
    at (Ok (Edited e)) f h = cc h
    at (Ok (Noted t)) f h = cc h
    at (Err fault) f h = cc h

-- one line in front
title_on_line : (rate : Rate) (text title : List ℕ) (lines : List (List ℕ)) (source after : List ℕ)
    → ((texts : List (List ℕ)) → IsInOrder text texts → IsInOrder source texts)
    → (last_title rate lines ≡ Some title → IsInOrder after (title ∷ []))
    → last_title rate (text ∷ lines) ≡ Some title → IsInOrder (source ++ after) (title ∷ [])
title_on_line rate text title lines source after part behind h =
    at (last_title rate lines) refl (sym (title-step rate lines text) ∙ h)
  where
    at : (o : Option (List ℕ)) → last_title rate lines ≡ o → option_or o (title_in (meaning_of rate text)) ≡ Some title
        → IsInOrder (source ++ after) (title ∷ [])
    at (Some t) e g = later source after (title ∷ []) (behind (e ∙ g))
    at None e g = longer source after (title ∷ []) (part (title ∷ []) (title_line rate text title g))

title_within : (most : ℕ) (rate : Rate) (bs title : List ℕ) → length bs ≤ most
    → last_title rate (line_texts bs) ≡ Some title → IsInOrder bs (title ∷ [])
title_within most rate [] title le h =
    let none : last_title rate (line_texts []) ≡ None = ap (last_title rate) line_texts-nil ∙ title-nil rate in
    cc (sym none ∙ h)
title_within zero rate (b ∷ bs) title le h = absurd (omega arith)
title_within (suc most) rate (b ∷ bs) title le h =
    let some : 0 < length (b ∷ bs) = omega arith in
    let first : List ℕ = before_first is_line_end (b ∷ bs) in
    let after : List ℕ = after_first is_line_end (b ∷ bs) in
    let rest : List ℕ = drop (position_or_len is_line_end (b ∷ bs)) (b ∷ bs) in
    let behind : last_title rate (line_texts after) ≡ Some title → IsInOrder rest (title ∷ []) =
    λ g. of_rest 1 rest (title ∷ [])
    (rw drop-drop (title_within most rate after title (omega (arith, after_line_shorter (b ∷ bs) some)) g)) in
    let whole =
    title_on_line rate (line_text first) title (line_texts after) first rest
    (λ texts g. line_text_order first texts g) behind
    (ap (last_title rate) (sym (line_texts-step (b ∷ bs) some)) ∙ h) in
    rw take-append-drop at whole

title_of_text : (rate : Rate) (text title : List ℕ) → last_title rate (lines_of text) ≡ Some title
    → IsInOrder text (title ∷ [])
title_of_text rate text title h = marked (starts_with nat_eq text (0xef ∷ 0xbb ∷ 0xbf ∷ [])) refl
  where
    marked : (v : Bool) → starts_with nat_eq text (0xef ∷ 0xbb ∷ 0xbf ∷ []) ≡ v → IsInOrder text (title ∷ [])
    marked true e =
        let mark : after_mark text ≡ drop 3 text = rw e refl in
        of_rest 3 text (title ∷ [])
        (title_within (length (drop 3 text)) rate (drop 3 text) title (omega arith)
        (ap (λ (l : List ℕ). last_title rate (line_texts l)) (sym mark) ∙ h))
    marked false e =
        let mark : after_mark text ≡ text = rw e refl in
        title_within (length text) rate text title (omega arith)
        (ap (λ (l : List ℕ). last_title rate (line_texts l)) (sym mark) ∙ h)

-- a list's title stands in its text
pub title_of_list : (rate : Rate) (ignore : Bool) (text : List ℕ) (title : Option (List ℕ)) (head : List (List ℕ))
    (events : List EventEntry)
    → IsListOf rate ignore text title head events → IfSome title (λ t. IsInOrder text (t ∷ []))
title_of_list rate ignore text None head events h = tt
title_of_list rate ignore text (Some t) head events h = title_of_text rate text t (sym h.title_is)
