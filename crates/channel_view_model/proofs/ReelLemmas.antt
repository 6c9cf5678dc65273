-- The reel of each event of a list is a word of its text, between blanks.
use Rattle.std.proofs.Common.{◌≡◌, ℕ, zero, suc, ◌+◌, ◌-◌, ◌<◌, ◌≤◌, Bool, true, false, cond, List, [], ◌∷◌, ◌++◌}
use Rattle.std.proofs.Common.{length, take, drop, get_or, None, Result, Ok, Err, refl, sym, ◌∙◌, ap, subst}
use Rattle.std.proofs.Common.{arith, inl, inr}
use Rattle.std.specs.Prelude.{◌⊎◌, nat_eq, not}
use Rattle.std.specs.List.{All, Contains, slice_split, onto_first, prefix_len, suffix_len, position_or_len}
use Rattle.std.specs.List.{before_first, after_first, starts_with, ends_with}
use Rattle.std.proofs.lemmas.Bool.{cases_lt}
use Rattle.std.proofs.lemmas.List.{append_assoc, take-append-drop, drop_more, drop_all, get_or-take}
use Rattle.std.proofs.lemmas.List.{length-take-le}
use Rattle.std.proofs.lemmas.List.Elements.{All-nil, All-cons, All-head, All-tail, All-weaker, Contains-append_right}
use Rattle.std.proofs.lemmas.List.Splits.{slice_split-cons_yes, slice_split-cons_no, slice_split_at}
use Rattle.std.proofs.lemmas.List.Sums.{prefix_len-le-length, prefix_len_passes, passes_at_first, fails_before_first}
use Rattle.timecode.specs.declared.rates.Rate.{Rate}
use Rattle.channel_plan.specs.declared.fault.LineFault.{LineFault}
use Rattle.edl.specs.Text.{after_mark, lines_of, fields_of, is_blank, is_line_end, line_text, line_texts, without_cr}
use Rattle.edl.specs.Text.{after_blanks}
use Rattle.edl.specs.Line.{EventLine}
use Rattle.edl.specs.Meaning.{LineMeaning, Nothing, Titled, Moded, Edited, Noted, meaning_of}
use Rattle.edl.specs.Notes.{entry_of, notes_until_event}
use Rattle.edl.specs.ListOf.{entry_in, events_from}
use Rattle.edl.specs.Entry.{EventEntry}
use Rattle.edl.proofs.TextLemmas.{after_line_shorter, fields_of-after_blanks, fields_of-blank, fields_of-nil}
use Rattle.edl.proofs.TextLemmas.{fields_of-split, line_texts-nil, line_texts-step, prefix_len-after_blanks}
use Rattle.edl.proofs.ProgressLemmas.{events-nil, events-step}
use Rattle.edl.proofs.MeaningLemmas.{meaning-edited}
use Rattle.edl.proofs.OrderLemmas.{event_words_in}
use Rattle.playlist_edl.specs.Importing.{events_in}

-- the word stands in the text between two blanks
record IsWordOf (text word : List ℕ) : Type 0 where
  before : List ℕ
  first : ℕ
  last : ℕ
  after : List ℕ
  parts : text ≡ before ++ first ∷ (word ++ last ∷ after)
  opens : is_blank first ≡ true
  ends : is_blank last ≡ true
  clear : All (λ b. is_blank b ≡ false) word

-- and so it does with more in front, or behind
behind : (front text word : List ℕ) → IsWordOf text word → IsWordOf (front ++ text) word
behind front text word is = record {
  before = front ++ is.before;
  first = is.first;
  last = is.last;
  after = is.after;
  parts =
      ap (λ l. front ++ l) is.parts
      ∙ sym (append_assoc front is.before (is.first ∷ (word ++ is.last ∷ is.after)));
  opens = is.opens;
  ends = is.ends;
  clear = is.clear;
}

before_more : (text more word : List ℕ) → IsWordOf text word → IsWordOf (text ++ more) word
before_more text more word is = record {
  before = is.before;
  first = is.first;
  last = is.last;
  after = is.after ++ more;
  parts =
      ap (λ l. l ++ more) is.parts ∙ append_assoc is.before (is.first ∷ (word ++ is.last ∷ is.after)) more
      ∙ ap (λ l. is.before ++ is.first ∷ l) (append_assoc word (is.last ∷ is.after) more);
  opens = is.opens;
  ends = is.ends;
  clear = is.clear;
}

of_front : (n : ℕ) (text word : List ℕ) → IsWordOf (take n text) word → IsWordOf text word
of_front n text word is =
    subst (λ l. IsWordOf l word) (take-append-drop n text) (before_more (take n text) (drop n text) word is)

of_rest : (n : ℕ) (text word : List ℕ) → IsWordOf (drop n text) word → IsWordOf text word
of_rest n text word is =
    subst (λ l. IsWordOf l word) (take-append-drop n text) (behind (take n text) (drop n text) word is)

-- ---- a word between blanks is one of the parts

first_part : (p : ℕ → Bool) (s : List ℕ)
    → (part : List ℕ) × (parts : List (List ℕ)) × (slice_split p s ≡ part ∷ parts)
first_part p [] = ([], [], refl)
first_part p (x ∷ xs) = at (p x) refl (first_part p xs)
  where
    at : (v : Bool) → p x ≡ v → (part : List ℕ) × (parts : List (List ℕ)) × (slice_split p xs ≡ part ∷ parts)
        → (part : List ℕ) × (parts : List (List ℕ)) × (slice_split p (x ∷ xs) ≡ part ∷ parts)
    at true e c = ([], slice_split p xs, slice_split-cons_yes p x xs e)
    at false e c = (x ∷ c.0, c.1, slice_split-cons_no p x xs e ∙ ap (onto_first x) c.2)

split_at : (p : ℕ → Bool) (xs : List ℕ) (y : ℕ) (ys : List ℕ) → p y ≡ true
    → slice_split p (xs ++ y ∷ ys) ≡ slice_split p xs ++ slice_split p ys
split_at p [] y ys e = slice_split-cons_yes p y ys e
split_at p (x ∷ xs) y ys e = at (p x) refl (split_at p xs y ys e)
  where
    at : (v : Bool) → p x ≡ v → slice_split p (xs ++ y ∷ ys) ≡ slice_split p xs ++ slice_split p ys
        → slice_split p (x ∷ xs ++ y ∷ ys) ≡ slice_split p (x ∷ xs) ++ slice_split p ys
    at true h more =
        slice_split-cons_yes p x (xs ++ y ∷ ys) h ∙ ap (λ l. [] ∷ l) more
        ∙ sym (ap (λ l. l ++ slice_split p ys) (slice_split-cons_yes p x xs h))
    at false h more =
        let c = first_part p xs in
        slice_split-cons_no p x (xs ++ y ∷ ys) h
        ∙ ap (onto_first x) (more ∙ ap (λ l. l ++ slice_split p ys) c.2)
        ∙ sym (ap (λ l. l ++ slice_split p ys) (slice_split-cons_no p x xs h ∙ ap (onto_first x) c.2))

word_is_part : (text word : List ℕ) → IsWordOf text word → Contains (slice_split is_blank text) word
word_is_part text word is =
    let rest = slice_split is_blank is.after in
    let parts : slice_split is_blank text ≡ slice_split is_blank is.before ++ word ∷ rest =
    ap (slice_split is_blank) is.parts ∙ split_at is_blank is.before is.first (word ++ is.last ∷ is.after) is.opens
    ∙ ap (λ l. slice_split is_blank is.before ++ l) (slice_split_at is_blank word is.last is.after is.clear is.ends) in
    subst (λ l. Contains l word) (sym parts)
    (Contains-append_right (slice_split is_blank is.before) (word ∷ rest) word (0, omega arith, refl))

-- ---- the second of three fields or more stands between blanks

-- where the first field stands, and what its line has behind it: nothing, or a blank first
record HasField (line field : List ℕ) (more : List (List ℕ)) : Type 0 where
  before : List ℕ
  after : List ℕ
  parts : line ≡ before ++ (field ++ after)
  blanks : All (λ b. is_blank b ≡ true) before
  clear : All (λ b. is_blank b ≡ false) field
  begins : (after ≡ []) ⊎ ((blank : ℕ) × (rest : List ℕ) × (after ≡ blank ∷ rest) × (is_blank blank ≡ true))
  fields : fields_of after ≡ more

heads : {X : Type 0} (x y : X) (xs ys : List X) → x ∷ xs ≡ y ∷ ys → (x ≡ y) × (xs ≡ ys)
heads x y xs ys e = (cc, cc)

some_left : (s field : List ℕ) (more : List (List ℕ)) → fields_of s ≡ field ∷ more → 0 < length s
some_left [] field more e = let none = sym fields_of-nil ∙ e in absurd (cc)
some_left (b ∷ bs) field more e = omega arith

first_field : (line field : List ℕ) (more : List (List ℕ)) → fields_of line ≡ field ∷ more → HasField line field more
first_field line field more e =
    let n = prefix_len is_blank line in
    let s = after_blanks line in
    let m = position_or_len is_blank s in
    let its : fields_of s ≡ field ∷ more = fields_of-after_blanks line ∙ e in
    let split = fields_of-split s (some_left s field more its) (prefix_len-after_blanks line) in
    let both = heads (before_first is_blank s) field (fields_of (drop m s)) more (sym split ∙ its) in
    record {
      before = take n line;
      after = drop m s;
      parts =
          sym (take-append-drop n line)
          ∙ ap (λ l. take n line ++ l) (sym (take-append-drop m s) ∙ ap (λ l. l ++ drop m s) both.0);
      blanks = λ k d lt.
          let lt_n : k < n = omega (arith, lt, length-take-le n line (prefix_len-le-length is_blank line)) in
          ap is_blank (get_or-take n line k d lt_n) ∙ prefix_len_passes is_blank line k d lt_n;
      clear = subst (All (λ b. is_blank b ≡ false)) both.0 (clear_front s);
      begins = elim (cases_lt m (length s)) [
        | inl lt ↦ inr (get_or s m 0, drop (m + 1) s, drop_more s m 0 lt, passes_at_first is_blank s 0 lt)
        | inr ge ↦ inl (drop_all m s ge)
      ];
      fields = both.1;
    }
  where
    clear_front : (s : List ℕ) → All (λ b. is_blank b ≡ false) (before_first is_blank s)
    clear_front s = λ k d lt.
        let m = position_or_len is_blank s in
        let le : m ≤ length s = prefix_len-le-length (λ x. not (is_blank x)) s in
        let lt_m : k < m = omega (arith, lt, length-take-le m s le) in
        ap is_blank (get_or-take m s k d lt_m) ∙ fails_before_first is_blank s k d lt_m

-- of blanks one is the last
last_blank : (blank : ℕ) (blanks : List ℕ) → is_blank blank ≡ true → All (λ b. is_blank b ≡ true) blanks
    → (front : List ℕ) × (last : ℕ) × (blank ∷ blanks ≡ front ++ last ∷ []) × (is_blank last ≡ true)
last_blank blank [] is all = ([], blank, refl, is)
last_blank blank (b ∷ bs) is all =
    let c =
    last_blank b bs (All-head (λ x. is_blank x ≡ true) b bs all) (All-tail (λ x. is_blank x ≡ true) b bs all) in
    (blank ∷ c.0, c.1, ap (λ l. blank ∷ l) c.2, c.3)

second_is_word : (line first second third : List ℕ) (more : List (List ℕ))
    → fields_of line ≡ first ∷ second ∷ third ∷ more → IsWordOf line second
second_is_word line first second third more e =
    let c = first_field line first (second ∷ third ∷ more) e in
    subst (λ l. IsWordOf l second) (sym c.parts)
    (behind c.before (first ++ c.after) second (behind first c.after second (at c.after c.fields c.begins)))
  where
    -- behind the first field
    at : (after : List ℕ) → fields_of after ≡ second ∷ third ∷ more
        → (after ≡ []) ⊎ ((blank : ℕ) × (rest : List ℕ) × (after ≡ blank ∷ rest) × (is_blank blank ≡ true))
        → IsWordOf after second
    at after fields (inl none) = let no = sym fields_of-nil ∙ sym (ap fields_of none) ∙ fields in absurd (cc)
    at after fields (inr b) =
        let rest : fields_of b.1 ≡ second ∷ third ∷ more =
        sym (fields_of-blank b.0 b.1 b.3) ∙ sym (ap fields_of b.2) ∙ fields in
        let c = first_field b.1 second (third ∷ more) rest in
        subst (λ l. IsWordOf l second) (sym b.2)
        (closed b.0 b.1 b.3 c c.after c.fields refl c.begins)
      where
        closed : (blank : ℕ) (rest : List ℕ) → is_blank blank ≡ true → (c : HasField rest second (third ∷ more))
            → (end : List ℕ) → fields_of end ≡ third ∷ more → c.after ≡ end
            → (end ≡ []) ⊎ ((b : ℕ) × (l : List ℕ) × (end ≡ b ∷ l) × (is_blank b ≡ true))
            → IsWordOf (blank ∷ rest) second
        closed blank rest is c end left same (inl none) =
            let no = sym fields_of-nil ∙ sym (ap fields_of none) ∙ left in absurd (cc)
        closed blank rest is c end left same (inr b) =
            let last = last_blank blank c.before is c.blanks in record {
              before = last.0;
              first = last.1;
              last = b.0;
              after = b.1;
              parts =
                  ap (λ l. blank ∷ l) c.parts ∙ ap (λ l. l ++ (second ++ c.after)) last.2
                  ∙ append_assoc last.0 (last.1 ∷ []) (second ++ c.after)
                  ∙ ap (λ l. last.0 ++ last.1 ∷ (second ++ l)) (same ∙ b.2);
              opens = last.3;
              ends = b.3;
              clear = c.clear;
            }

-- ---- what stands so on a line stands so in its text

in_line : (raw word : List ℕ) → IsWordOf (line_text raw) word → IsWordOf raw word
unfolding line_text
in_line raw word is =
    at (ends_with nat_eq raw (13 ∷ []))
    (of_rest (prefix_len is_blank (without_cr raw)) (without_cr raw) word
    (of_front (length (after_blanks (without_cr raw)) - suffix_len is_blank (after_blanks (without_cr raw)))
    (after_blanks (without_cr raw)) word is))
  where
    at : (v : Bool) → IsWordOf (cond v (take (length raw - 1) raw) raw) word → IsWordOf raw word
    at true h = of_front (length raw - 1) raw word h
    at false h = h

abbrev AllStandIn : List ℕ → List (List ℕ) → Type 0
AllStandIn text = All (λ line. (word : List ℕ) → IsWordOf line word → IsWordOf text word)

lines_within : (most : ℕ) (text : List ℕ) → length text ≤ most → AllStandIn text (line_texts text)
lines_within most [] le =
    subst (AllStandIn []) (sym line_texts-nil)
    (All-nil (λ (line : List ℕ). (word : List ℕ) → IsWordOf line word → IsWordOf [] word))
lines_within zero (b ∷ bs) le = absurd (omega arith)
lines_within (suc most) (b ∷ bs) le =
    let text = b ∷ bs in
    let some : 0 < length text = omega arith in
    let n = position_or_len is_line_end text in
    let first = before_first is_line_end text in
    let after = after_first is_line_end text in
    let P : List ℕ → List ℕ → Type 0 = λ s line. (word : List ℕ) → IsWordOf line word → IsWordOf s word in
    subst (AllStandIn text) (sym (line_texts-step text some))
    (All-cons (P text) (line_text first) (line_texts after)
    (λ word is. of_front n text word (in_line first word is))
    (All-weaker (P after) (P text) (λ line so word is. of_rest (n + 1) text word (so word is)) (line_texts after)
    (lines_within most after (omega (arith, after_line_shorter text some)))))

lines_stand : (text : List ℕ) → AllStandIn text (lines_of text)
lines_stand text = at (starts_with nat_eq text (0xef ∷ 0xbb ∷ 0xbf ∷ [])) refl
  where
    P : List ℕ → List ℕ → Type 0
    P s line = (word : List ℕ) → IsWordOf line word → IsWordOf s word

    at : (v : Bool) → starts_with nat_eq text (0xef ∷ 0xbb ∷ 0xbf ∷ []) ≡ v → AllStandIn text (lines_of text)
    at true e =
        let mark : after_mark text ≡ drop 3 text = rw e refl in
        subst (λ s. AllStandIn text (line_texts s)) (sym mark)
        (All-weaker (λ line. (word : List ℕ) → IsWordOf line word → IsWordOf (drop 3 text) word)
        (λ line. (word : List ℕ) → IsWordOf line word → IsWordOf text word)
        (λ line so word is. of_rest 3 text word (so word is)) (line_texts (drop 3 text))
        (lines_within (length (drop 3 text)) (drop 3 text) (omega arith)))
    at false e =
        let mark : after_mark text ≡ text = rw e refl in
        subst (λ s. AllStandIn text (line_texts s)) (sym mark) (lines_within (length text) text (omega arith))

-- ---- the reels of events

event_on : (rate : Rate) (line : List ℕ) (event : EventLine) → meaning_of rate line ≡ Ok (Edited event)
    → IsWordOf line event.reel
event_on rate line event is =
    let words = event_words_in rate (fields_of line) event (meaning-edited rate line event is).1 in
    second_is_word line words.number event.reel event.channels (event.edit.kind ∷ words.more) words.fields_are

events_on : (rate : Rate) (text : List ℕ) (n : ℕ) (lines : List (List ℕ)) → AllStandIn text lines
    → All (λ e. IsWordOf text e.reel) (events_from rate n lines)
events_on rate text n [] stand =
    subst (All (λ e. IsWordOf text e.reel)) (sym (events-nil rate n))
    (All-nil (λ (e : EventEntry). IsWordOf text e.reel))
events_on rate text n (line ∷ lines) stand =
    at (meaning_of rate line) refl
    (events_on rate text (n + 1) lines
    (All-tail (λ l. (word : List ℕ) → IsWordOf l word → IsWordOf text word) line lines stand))
  where
    P : List EventEntry → Type 0
    P = All (λ e. IsWordOf text e.reel)

    other : P (events_from rate (n + 1) lines)
        → entry_in n (meaning_of rate line) (notes_until_event rate lines) ≡ None
        → P (events_from rate n (line ∷ lines))
    other more none =
        let same : events_from rate n (line ∷ lines) ≡ events_from rate (n + 1) lines =
        rw (events-step rate n lines line, none) refl in
        subst P (sym same) more

    at : (m : Result LineMeaning LineFault) → meaning_of rate line ≡ m → P (events_from rate (n + 1) lines)
        → P (events_from rate n (line ∷ lines))
    at (Ok (Edited event)) is more =
        let entry : EventEntry = entry_of n event (notes_until_event rate lines) in
        let same : events_from rate n (line ∷ lines) ≡ entry ∷ events_from rate (n + 1) lines =
        rw (events-step rate n lines line, is) refl in
        subst P (sym same)
        (All-cons (λ e. IsWordOf text e.reel) entry (events_from rate (n + 1) lines)
        (All-head (λ l. (word : List ℕ) → IsWordOf l word → IsWordOf text word) line lines stand event.reel
        (event_on rate line event is)) more)
    at (Ok Nothing) is more = other more (rw is refl)
    at (Ok (Titled t)) is more = other more (rw is refl)
    at (Ok Moded) is more = other more (rw is refl)
    at (Ok (Noted t)) is more = other more (rw is refl)
    at (Err fault) is more = other more (rw is refl)

pub reels_are_words : (rate : Rate) (text : List ℕ)
    → All (λ e. Contains (slice_split is_blank text) e.reel) (events_in rate text)
reels_are_words rate text =
    All-weaker (λ e. IsWordOf text e.reel) (λ e. Contains (slice_split is_blank text) e.reel)
    (λ e is. word_is_part text e.reel is) (events_in rate text)
    (events_on rate text 1 (lines_of text) (lines_stand text))
