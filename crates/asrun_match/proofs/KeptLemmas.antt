-- A batch that comes to a day leaves it by its rules.
use Rattle.std.proofs.Common.{◌≡◌, ◌∙◌, ℕ, ◌+◌, ◌<◌, List, [], ◌∷◌, ◌++◌, Bool, true, false, not, ◌&&◌, length, refl}
use Rattle.std.proofs.Common.{sym, ap, subst, arith, append_assoc}
use Rattle.std.specs.Prelude.{◌==◌, nat_lt, nat_le, codes, bytes_eq, Option, Some, None, Result, Ok, Err, IsPermutation}
use Rattle.std.specs.Prelude.{if◌then◌else◌}
use Rattle.std.specs.List.{AllByRecursion}
use Rattle.std.specs.Option.{option_and_then}
use Rattle.std.proofs.lemmas.Bool.Decides.{nat_tests}
use Rattle.timecode.specs.declared.rates.Rate.{Rate}
use Rattle.std.proofs.lemmas.List.{append-nil, length-append}
use Rattle.std.proofs.lemmas.List.Elements.{All-from_recursion}
use Rattle.std.proofs.lemmas.List.Sorted.{IsPermutation-append_left, IsPermutation-insert, IsPermutation-push_more}
use Rattle.std.proofs.lemmas.List.Sorted.{IsPermutation-refl, IsPermutation-trans}
use Rattle.playlist_core.proofs.PlaceLemmas.{at_place}
use Rattle.std.specs.List.{position_or_len}
use Rattle.timecode.specs.Counting.{day_length}
use Rattle.timecode.specs.Decimal.{decimal_number}
use Rattle.channel_plan.specs.declared.plan.PlanRow.{PlanRow}
use Rattle.channel_plan.specs.declared.refusal.Code.TheVariants.{PastDayEnd, BatchDiffers, BatchesFull, BatchOrder}
use Rattle.channel_plan.specs.declared.refusal.Refusal.{Refusal}
use Rattle.channel_plan.specs.Refusal.{refused}
use Rattle.playlist_core.specs.declared.day.DayState.{DayState}
use Rattle.playlist_core.specs.declared.day.DayState.TheVariants.{NotThere, Open, Sealed}
use Rattle.playlist_core.specs.Source.{source_of_reel}
use Rattle.playlist_core.specs.Picture.{first_painted, picture_of, paint}
use Rattle.playlist_core.specs.Order.{AreApart, put}
use Rattle.asrun_match.specs.declared.aired.AiredRow.{AiredRow}
use Rattle.asrun_match.specs.Limits.{most_batches}
use Rattle.asrun_match.specs.Aired.{Airing, FitsIn, KeepsAiringRules, Rows, aired, aired_picture, first_of, first_twice}
use Rattle.asrun_match.specs.Aired.{has_fields, is_row_reel, is_source_range, is_reel, reel_said, short_name}
use Rattle.asrun_match.specs.Batches.{batch_in, day_after, day_with, has_batch, same_rows, unless_twice, with_batch}
use Rattle.asrun_match.specs.Rows.{RowFields, behind, frame_said, frames_said, go_on, refused_row, if_in_day}
use Rattle.asrun_match.specs.Rows.{if_some_frames, kept_of, place_said, row_fields, row_of_record, row_said, rows_from}
use Rattle.asrun_match.specs.Rows.{rows_said}
use Rattle.asrun_match.proofs.AiringLemmas.{ends_after, apart_with, painted_with}
use Rattle.asrun_match.proofs.BatchLemmas.{fields_more, moved_more, picture_sorted}

-- a value that is there after two steps
some_then : {X Y : Type 0} (g : X → Option Y) (o : Option X) (y : Y) → option_and_then g o ≡ Some y
    → (x : X) × (o ≡ Some x) × (g x ≡ Some y)
some_then g None y h = absurd (cc)
some_then g (Some x) y h = (x, refl, h)

-- A row that fields say has some frames, a reel in its kept form, and lies within its source.

frames_some : (rate : Rate) (text : List ℕ) (frames : ℕ) → frames_said rate text ≡ Some frames → 0 < frames
frames_some rate text frames h =
    let read = some_then (if_some_frames rate) (decimal_number 7 text) frames h in
    by (nat_le 1 read.0 && nat_le read.0 (day_length rate)) refl read.2
  where
    by : (b : Bool)
        → (nat_le 1 (some_then (if_some_frames rate) (decimal_number 7 text) frames h).0
        && nat_le (some_then (if_some_frames rate) (decimal_number 7 text) frames h).0 (day_length rate)) ≡ b
        → (if b then Some (some_then (if_some_frames rate) (decimal_number 7 text) frames h).0 else None) ≡ Some frames
        → 0 < frames
    by true is e =
        let same : (some_then (if_some_frames rate) (decimal_number 7 text) frames h).0 ≡ frames = cc in
        grind (arith, nat_tests, is, same)
    by false is e = absurd (cc)

reel_kept : (text reel : List ℕ) → reel_said text ≡ Some reel → is_row_reel reel ≡ true
reel_kept text reel h = by (is_reel text) refl h
  where
    by : (b : Bool) → is_reel text ≡ b → (if b then Some (short_name text) else None) ≡ Some reel
        → is_row_reel reel ≡ true
    by false is e = absurd (cc)
    by true is e = named (bytes_eq text (codes "BLACK")) refl e
      where
        named : (b : Bool) → bytes_eq text (codes "BLACK") ≡ b → Some (if b then codes "BL" else text) ≡ Some reel
            → is_row_reel reel ≡ true
        named true long e = let same : codes "BL" ≡ reel = cc in subst (λ (r : List ℕ). is_row_reel r ≡ true) same refl
        named false long e =
            let same : text ≡ reel = cc in
            subst (λ (r : List ℕ). is_row_reel r ≡ true) same
            (ap (λ b. b && not (bytes_eq text (codes "BLACK"))) is ∙ ap not long)

place_lies : (rate : Rate) (reel : List ℕ) (frames place first : ℕ) → place_said rate reel frames place ≡ Some first
    → is_source_range (day_length rate) (source_of_reel reel) first frames ≡ true
place_lies rate reel frames place first h =
    by (is_source_range (day_length rate) (source_of_reel reel) (kept_of (source_of_reel reel) place) frames) refl h
  where
    by : (b : Bool)
        → is_source_range (day_length rate) (source_of_reel reel) (kept_of (source_of_reel reel) place) frames ≡ b
        → (if b then Some (kept_of (source_of_reel reel) place) else None) ≡ Some first
        → is_source_range (day_length rate) (source_of_reel reel) first frames ≡ true
    by true is e =
        let same : kept_of (source_of_reel reel) place ≡ first = cc in
        subst (λ f. is_source_range (day_length rate) (source_of_reel reel) f frames ≡ true) same is
    by false is e = absurd (cc)

abbrev made_row : ℕ → ℕ → List ℕ → ℕ → AiredRow
made_row p frames reel first = record { pos = p; frames = frames; src = reel; src_first = first }

said_has_fields : (rate : Rate) (start : ℕ) (f : RowFields) (row : AiredRow) → row_said rate start f ≡ Some row
    → (0 < row.frames) × (has_fields (day_length rate) row ≡ true)
said_has_fields rate start f row h =
    let at = some_then _ (frame_said rate f.label) row h in
    let frames = some_then _ (frames_said rate f.frames) row at.2 in
    let reel = some_then _ (reel_said f.reel) row frames.2 in
    let place = some_then _ (frame_said rate f.source) row reel.2 in
    let first = some_then _ (place_said rate reel.0 frames.0 place.0) row place.2 in
    let one : 0 < frames.0 = frames_some rate f.frames frames.0 frames.1 in
    let two : is_row_reel reel.0 ≡ true = reel_kept f.reel reel.0 reel.1 in
    let three : is_source_range (day_length rate) (source_of_reel reel.0) first.0 frames.0 ≡ true =
    place_lies rate reel.0 frames.0 place.0 first.0 first.1 in
    is_row row frames.0 reel.0 first.0 one
    (ap (λ b. b && is_source_range (day_length rate) (source_of_reel reel.0) first.0 frames.0) two ∙ three) first.2
  where
    is_row : {p : ℕ} (row : AiredRow) (frames : ℕ) (reel : List ℕ) (first : ℕ) → 0 < frames
        → (is_row_reel reel && is_source_range (day_length rate) (source_of_reel reel) first frames) ≡ true
        → Some (made_row p frames reel first) ≡ Some row → (0 < row.frames) × (has_fields (day_length rate) row ≡ true)
    is_row {p} row frames reel first some fields e =
        let same : made_row p frames reel first ≡ row = cc in
        subst (λ (r : AiredRow). (0 < r.frames) × (has_fields (day_length rate) r ≡ true)) same (some, fields)

-- the row of a record fits in
row_fits : (rate : Rate) (start n : ℕ) (fields : List (List ℕ)) (row : AiredRow)
    → row_of_record rate start n fields ≡ Ok row → FitsIn (day_length rate) row
row_fits rate start n fields row h = by (option_and_then (row_said rate start) (row_fields fields)) refl h
  where
    by : (o : Option AiredRow) → option_and_then (row_said rate start) (row_fields fields) ≡ o
        → if_in_day rate n o ≡ Ok row → FitsIn (day_length rate) row
    by None is e = absurd (cc)
    by (Some said) is e = within (nat_lt (day_length rate) (said.pos + said.frames)) refl e
      where
        read : (f : RowFields) × (row_fields fields ≡ Some f) × (row_said rate start f ≡ Some said)
        read = some_then (row_said rate start) (row_fields fields) said is

        within : (b : Bool) → nat_lt (day_length rate) (said.pos + said.frames) ≡ b
            → (if b then Err (refused_row PastDayEnd n) else Ok said) ≡ Ok row → FitsIn (day_length rate) row
        within true past e = absurd (cc)
        within false past e =
            let same : said ≡ row = cc in
            let has = said_has_fields rate start read.0 said read.2 in
            subst (FitsIn (day_length rate)) same
            (record { some = has.0; within = grind (arith, nat_tests, past); fields = has.1 })

-- and so do all rows of a text
rows_fit : (rate : Rate) (start n : ℕ) (records : List (List (List ℕ))) (rows : List AiredRow)
    → rows_from rate start n records ≡ Ok rows → AllByRecursion (FitsIn (day_length rate)) rows
rows_fit rate start n [] rows h = let same : [] ≡ rows = cc in subst (AllByRecursion (FitsIn (day_length rate))) same tt
rows_fit rate start n (fields ∷ more) rows h =
    by (row_of_record rate start n fields) refl (rows_fit rate start (n + 1) more) h
  where
    by : (r : Result AiredRow Refusal) → row_of_record rate start n fields ≡ r
        → ((others : List AiredRow) → rows_from rate start (n + 1) more ≡ Ok others
        → AllByRecursion (FitsIn (day_length rate)) others)
        → go_on r (λ row. behind (row ∷ []) (rows_from rate start (n + 1) more)) ≡ Ok rows
        → AllByRecursion (FitsIn (day_length rate)) rows
    by (Err e) is rest h = absurd (cc)
    by (Ok row) is rest h = each (rows_from rate start (n + 1) more) refl h
      where
        each : (r : Result (List AiredRow) Refusal) → rows_from rate start (n + 1) more ≡ r
            → behind (row ∷ []) r ≡ Ok rows → AllByRecursion (FitsIn (day_length rate)) rows
        each (Err e) was h = absurd (cc)
        each (Ok others) was h =
            let same : row ∷ others ≡ rows = cc in
            subst (AllByRecursion (FitsIn (day_length rate))) same
            (row_fits rate start n fields row is, rest others was)

-- Rows that air no frame twice, beside those that were aired: all of them lie one behind the other in some order.
pub record Taken (frames : ℕ) (order rows : List AiredRow) : Type 0 where
  pub later : List AiredRow
  pub same : IsPermutation (order ++ rows) later
  pub apart : AreApart aired 0 frames later

pub none_first : (o later : Option ℕ) → first_of o later ≡ None → (o ≡ None) × (later ≡ None)
none_first None later h = (refl, h)
none_first (Some p) later h = absurd (cc)

pub taken : (frames : ℕ) (order rows : List AiredRow) → AreApart aired 0 frames order
    → AllByRecursion (FitsIn frames) rows → first_twice (picture_of aired frames order) rows ≡ None
    → Taken frames order rows
taken frames order [] apart fit free =
    record {
      later = order;
      same =
          subst (λ xs. IsPermutation xs order) (sym (append-nil order)) (IsPermutation-refl order);
      apart = apart;
    }
taken frames order (r ∷ rs) apart fit free =
    let day : Rows = record { frames = frames; rows = order } in
    let next : List AiredRow = put (ends_after r) r order in
    let none =
    none_first (first_painted r.pos r.frames (picture_of aired frames order))
    (first_twice (paint (aired r) (picture_of aired frames order)) rs) free in
    let painted = painted_with day r next refl in
    let rest =
    taken frames next rs (apart_with day r next apart fit.0 none.0 refl) fit.1
    (ap (λ P. first_twice P rs) painted ∙ none.1) in
    let moved : IsPermutation (r ∷ order) next =
    subst (IsPermutation (r ∷ order)) (at_place (ends_after r) r order)
    (IsPermutation-insert order (position_or_len (ends_after r) order) r) in
    let pushed : IsPermutation (order ++ r ∷ []) next =
    IsPermutation-push_more order order next r (IsPermutation-refl order) moved in
    let more : IsPermutation (order ++ (r ∷ rs)) (next ++ rs) =
    subst (λ xs. IsPermutation xs (next ++ rs)) (append_assoc order (r ∷ []) rs)
    (IsPermutation-append_left rs (order ++ r ∷ []) next pushed) in
    record {
      later = rest.later;
      same =
          IsPermutation-trans (order ++ (r ∷ rs)) (next ++ rs) rest.later more rest.same;
      apart = rest.apart;
    }

-- What is left of a day after a batch came: by its rules, of as many frames, with a batch at least; and the day is
-- sealed.
pub record IsKept (state : DayState) (day after : Airing) : Type 0 where
  pub sealed : state ≡ Sealed
  pub frames : after.frames ≡ day.frames
  pub rules : KeepsAiringRules after
  pub some : 0 < length after.batches

module _ (plan : PlanRow) (n : ℕ) (day after : Airing) (frames : day.frames ≡ day_length plan.rate)
    (kept : KeepsAiringRules day) where
  with_rows : (rows : List AiredRow) → AllByRecursion (FitsIn day.frames) rows → day_with plan n rows day ≡ Ok after
      → IsKept Sealed day after
  with_rows rows fit h = known (has_batch n day) refl h
    where
      add : n ≡ length day.batches + 1 → nat_lt most_batches n ≡ false → (o : Option ℕ)
          → first_twice (aired_picture day) rows ≡ o → unless_twice plan o (with_batch rows day) ≡ Ok after
          → IsKept Sealed day after
      add next few (Some p) twice e = absurd (cc)
      add next few None twice e =
          let same : with_batch rows day ≡ after = cc in
          let longer : length (day.batches ++ rows ∷ []) ≡ length day.batches + 1 =
          length-append day.batches (rows ∷ []) in
          let sorted : Rows = record { frames = day.frames; rows = kept.order } in
          let all =
          taken day.frames kept.order rows kept.apart fit
          (ap (λ P. first_twice P rows) (sym (picture_sorted day.batches sorted kept.same kept.apart)) ∙ twice) in
          subst (IsKept Sealed day) same (record {
            sealed = refl;
            frames = refl;
            rules = record {
              few = grind (arith, nat_tests, few, next, longer);
              fields =
                  fields_more day.frames day.batches rows kept.fields (All-from_recursion (FitsIn day.frames) rows fit);
              order = all.later;
              same = moved_more day.batches rows kept.order all.later kept.same all.same;
              apart = all.apart;
            };
            some = grind (arith, longer);
          })

      number : (b : Bool) → (n == length day.batches + 1) ≡ b → nat_lt most_batches n ≡ false
          → (if not b then Err (refused BatchOrder)
          else unless_twice plan (first_twice (aired_picture day) rows) (with_batch rows day)) ≡ Ok after
          → IsKept Sealed day after
      number true is few e = add (grind (arith, nat_tests, is)) few (first_twice (aired_picture day) rows) refl e
      number false is few e = absurd (cc)

      room : (b : Bool) → nat_lt most_batches n ≡ b
          → (if b then Err (refused BatchesFull) else if not (n == length day.batches + 1) then Err (refused BatchOrder)
          else unless_twice plan (first_twice (aired_picture day) rows) (with_batch rows day)) ≡ Ok after
          → IsKept Sealed day after
      room true is e = absurd (cc)
      room false is e = number (n == length day.batches + 1) refl is e

      again : has_batch n day ≡ true → (b : Bool) → (if b then Ok day else Err (refused BatchDiffers)) ≡ Ok after
          → IsKept Sealed day after
      again there true e =
          let same : day ≡ after = cc in
          subst (IsKept Sealed day) same
          (record { sealed = refl; frames = refl; rules = kept; some = grind (arith, nat_tests, there) })
      again there false e = absurd (cc)

      known : (b : Bool) → has_batch n day ≡ b
          → (if b then (if same_rows (batch_in n day) rows then Ok day else Err (refused BatchDiffers))
          else if nat_lt most_batches n then Err (refused BatchesFull)
          else if not (n == length day.batches + 1) then Err (refused BatchOrder)
          else unless_twice plan (first_twice (aired_picture day) rows) (with_batch rows day)) ≡ Ok after
          → IsKept Sealed day after
      known true there e = again there (same_rows (batch_in n day) rows) e
      known false there e = room (nat_lt most_batches n) refl e

  pub batch_kept : (state : DayState) (text : List ℕ) → day_after state plan n text day ≡ Ok after
      → IsKept state day after
  batch_kept NotThere text h = absurd (cc)
  batch_kept Open text h = absurd (cc)
  batch_kept Sealed text h = by (rows_said plan.rate plan.start text) refl h
    where
      by : (r : Result (List AiredRow) Refusal) → rows_said plan.rate plan.start text ≡ r
          → go_on r (λ rows. day_with plan n rows day) ≡ Ok after → IsKept Sealed day after
      by (Err e) was h = absurd (cc)
      by (Ok rows) was h =
          with_rows rows
          (subst (λ f. AllByRecursion (FitsIn f) rows) (sym frames) (rows_fit plan.rate plan.start 1 _ rows was)) h
