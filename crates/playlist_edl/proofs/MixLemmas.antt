-- The durations of a list's events have at most three digits.
use Rattle.std.proofs.Common.{◌≡◌, ℕ, ◌+◌, ◌≤◌, ◌^◌, List, [], ◌∷◌, length, Bool, true, false, refl, arith}
use Rattle.std.specs.Prelude.{Option, Some, None, Result, Ok, Err, All, IfOk, IfSome, ok_or, codes, ◌&&◌, ◌||◌, ◌==◌}
use Rattle.std.specs.Prelude.{nat_le, if◌then◌else◌}
use Rattle.std.specs.List.{list_all, cons_option}
use Rattle.std.specs.Char.{is_ascii_digit}
use Rattle.std.specs.Str.{is_utf8}
use Rattle.std.specs.Str.Parse.{digits_value, AllDigits}
use Rattle.std.proofs.Math.Nat.{pow-le-pow_right}
use Rattle.std.proofs.lemmas.Bool.Decides.{nat_tests}
use Rattle.std.proofs.lemmas.Int.Digits.{digits_value-lt}
use Rattle.std.proofs.lemmas.List.Elements.{All-cons}
use Rattle.timecode.specs.declared.rates.Rate.{Rate}
use Rattle.timecode.specs.Decimal.{is_decimal}
use Rattle.channel_plan.specs.declared.fault.LineFault.{LineFault}
use Rattle.channel_plan.specs.declared.fault.LineFault.TheVariants.{EventNumber, EditKind, FieldCount, NotText}
use Rattle.channel_plan.specs.declared.fault.LineFault.TheVariants.{FrameMode}
use Rattle.edl.specs.declared.meaning.FrameCodeMode.{FrameCodeMode}
use Rattle.edl.specs.Text.{begins_event}
use Rattle.edl.specs.Line.{EventLine, EditWords, and_then, edit, edit_of, is_cut, is_key, is_mix, event_in}
use Rattle.edl.specs.Line.{event_number, event_of_fields, event_of, field, words_in, places_in}
use Rattle.edl.specs.Meaning.{LineMeaning, Nothing, Titled, Moded, Edited, Noted, rest_after, mode_of, mode_or_note}
use Rattle.edl.specs.Meaning.{fits_rate, titled_or, text_meaning, meaning_of}
use Rattle.edl.specs.Entry.{EventEntry}
use Rattle.edl.specs.Notes.{notes_until_event}
use Rattle.edl.specs.ListOf.{entry_in, events_from}
use Rattle.playlist_edl.specs.Importing.{mix_of, HasShortMix}

digits_all : (text : List ℕ) → list_all is_ascii_digit text ≡ true → AllDigits 10 text
digits_all [] all = tt
digits_all (b ∷ text) all = (grind (arith, nat_tests, all), digits_all text (grind (arith, all)))

pub three_digits_short : (word : List ℕ) → is_decimal 3 word ≡ true → digits_value 10 word ≤ 999
three_digits_short word is =
    let digits : list_all is_ascii_digit word ≡ true = grind (arith, is) in
    let few : length word ≤ 3 = grind (arith, nat_tests, is) in
    let below = digits_value-lt 10 word (digits_all word digits) in
    let more : 10 ^ length word ≤ 10 ^ 3 = pow-le-pow_right (omega arith) few in
    omega (arith, below, more)

abbrev IsShort : EditWords → Type 0
IsShort words = mix_of words.duration ≤ 999

cut_short : (b : Bool) (kind : List ℕ) → IfSome (if b then Some (edit kind None) else None) IsShort
cut_short true kind = omega arith
cut_short false kind = tt

mix_short : (key mix three : Bool) (kind word : List ℕ) → is_decimal 3 word ≡ three
    → IfSome
    (if key then Some (edit kind None) else if mix
    && three then Some (edit kind (Some (digits_value 10 word))) else None) IsShort
mix_short true mix three kind word is = omega arith
mix_short false false three kind word is = tt
mix_short false true false kind word is = tt
mix_short false true true kind word is = three_digits_short word is

edit_short : (words : List (List ℕ)) → IfSome (edit_of words) IsShort
unfolding edit_of
edit_short [] = tt
edit_short (kind ∷ []) = cut_short (is_cut kind || is_key kind) kind
edit_short (kind ∷ word ∷ []) = mix_short (is_key kind) (is_mix kind) (is_decimal 3 word) kind word refl
edit_short (kind ∷ word ∷ other ∷ []) = cut_short (is_key kind) kind
edit_short (kind ∷ word ∷ other ∷ another ∷ more) = tt

abbrev IsShortLine : EventLine → Type 0
IsShortLine event = mix_of event.edit.duration ≤ 999

step_any : {A B : Type 0} (P : B → Type 0) (r : Result A LineFault) (step : A → Result B LineFault)
    → ((a : A) → IfOk (step a) P) → IfOk (and_then r step) P
step_any P (Ok a) step each = each a
step_any P (Err e) step each = tt

step_some : {A B : Type 0} (Q : A → Type 0) (P : B → Type 0) (o : Option A) (e : LineFault)
    (step : A → Result B LineFault) → IfSome o Q → ((a : A) → Q a → IfOk (step a) P)
    → IfOk (and_then (ok_or o e) step) P
step_some Q P (Some a) e step is each = each a is
step_some Q P None e step is each = tt

line_short : (rate : Rate) (fields : List (List ℕ)) → IfOk (event_in rate fields) IsShortLine
line_short rate fields =
    step_any IsShortLine (ok_or (event_number (field fields 0)) EventNumber) _ (λ number.
    step_some IsShort IsShortLine (edit_of (words_in fields)) EditKind _ (edit_short (words_in fields)) (λ words is.
    step_any IsShortLine (places_in rate fields) _ (λ places. is)))

fields_short : (rate : Rate) (fields : List (List ℕ)) → IfOk (event_of_fields rate fields) IsShortLine
unfolding event_of_fields
fields_short rate fields =
    elim (nat_le 8 (length fields) && nat_le (length fields) 10)
    as (λ b. IfOk (if b then event_in rate fields else Err FieldCount) IsShortLine) [
      | true ↦ line_short rate fields
      | false ↦ tt
    ]

-- the same of a line that is an event's
abbrev IsShortMeaning : LineMeaning → Type 0
IsShortMeaning Nothing = Unit {0}
IsShortMeaning (Titled text) = Unit {0}
IsShortMeaning Moded = Unit {0}
IsShortMeaning (Edited event) = IsShortLine event
IsShortMeaning (Noted text) = Unit {0}

edited_short : (r : Result EventLine LineFault) → IfOk r IsShortLine
    → IfOk (and_then r (λ event. Ok (Edited event))) IsShortMeaning
edited_short (Ok event) is = is
edited_short (Err e) is = tt

mode_short : (rate : Rate) (line : List ℕ) (o : Option FrameCodeMode) → IfOk (mode_or_note rate line o) IsShortMeaning
mode_short rate line None = tt
mode_short rate line (Some mode) =
    elim (fits_rate rate mode) as (λ b. IfOk (if b then Ok Moded else Err FrameMode) IsShortMeaning)
    [ true ↦ tt | false ↦ tt ]

title_short : (o : Option (List ℕ)) (r : Result LineMeaning LineFault) → IfOk r IsShortMeaning
    → IfOk (titled_or o r) IsShortMeaning
title_short (Some title) r is = tt
title_short None r is = is

text_short : (rate : Rate) (line : List ℕ) → IfOk (text_meaning rate line) IsShortMeaning
unfolding text_meaning
text_short rate line =
    elim (length line == 0)
    as (λ b. IfOk
    (if b then Ok Nothing
    else titled_or (rest_after (codes "TITLE:") line)
    (if begins_event line then and_then (event_of rate line) (λ event. Ok (Edited event))
    else mode_or_note rate line (mode_of line))) IsShortMeaning) [
      | true ↦ tt
      | false ↦ title_short (rest_after (codes "TITLE:") line) _
          (elim (begins_event line)
          as (λ b. IfOk
          (if b then and_then (event_of rate line) (λ event. Ok (Edited event))
          else mode_or_note rate line (mode_of line))
          IsShortMeaning) [
            | true ↦ edited_short (event_of rate line) (fields_short rate _)
            | false ↦ mode_short rate line (mode_of line)
          ])
    ]

meaning_short : (rate : Rate) (line : List ℕ) → IfOk (meaning_of rate line) IsShortMeaning
unfolding meaning_of
meaning_short rate line =
    elim (is_utf8 line) as (λ b. IfOk (if b then text_meaning rate line else Err NotText) IsShortMeaning)
    [ true ↦ text_short rate line | false ↦ tt ]

entry_short : (n : ℕ) (r : Result LineMeaning LineFault) (notes : List (List ℕ)) → IfOk r IsShortMeaning
    → IfSome (entry_in n r notes) HasShortMix
entry_short n (Ok Nothing) notes is = tt
entry_short n (Ok (Titled text)) notes is = tt
entry_short n (Ok Moded) notes is = tt
entry_short n (Ok (Edited event)) notes is = is
entry_short n (Ok (Noted text)) notes is = tt
entry_short n (Err e) notes is = tt

with_more : (o : Option EventEntry) (events : List EventEntry) → IfSome o HasShortMix → All HasShortMix events
    → All HasShortMix (cons_option o events)
with_more (Some event) events one all = All-cons HasShortMix event events one all
with_more None events one all = all

pub short_mixes : (rate : Rate) (n : ℕ) (lines : List (List ℕ)) → All HasShortMix (events_from rate n lines)
unfolding events_from
short_mixes rate n [] = λ k d lt. absurd (omega arith)
short_mixes rate n (line ∷ lines) =
    with_more (entry_in n (meaning_of rate line) (notes_until_event rate lines)) (events_from rate (n + 1) lines)
    (entry_short n (meaning_of rate line) (notes_until_event rate lines) (meaning_short rate line))
    (short_mixes rate (n + 1) lines)
