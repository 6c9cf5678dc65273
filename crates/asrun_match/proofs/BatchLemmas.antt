-- A batch that comes to those of a day.
use Rattle.std.proofs.Common.{◌≡◌, ◌∙◌, ℕ, zero, suc, ◌+◌, ◌<◌, ◌≤◌, true, List, [], ◌∷◌, ◌++◌, Result, Ok, Err, false}
use Rattle.std.proofs.Common.{length, drop, get_or, refl, sym, ap, subst, arith}
use Rattle.std.specs.Prelude.{All, IsPermutation, ◌&&◌}
use Rattle.std.specs.List.{AllByRecursion, list_all}
use Rattle.std.proofs.Math.Bool.{and-false}
use Rattle.std.proofs.lemmas.List.{append-nil, drop_more}
use Rattle.std.proofs.lemmas.List.Sorted.{IsPermutation-append_left, IsPermutation-trans, sum_by-IsPermutation}
use Rattle.std.proofs.lemmas.List.Elements.{recursion_from_All}
use Rattle.std.proofs.lemmas.List.Folds.{list_all-append}
use Rattle.std.proofs.lemmas.List.Sums.{sum_by-append, sum_by-cons}
use Rattle.std.proofs.lemmas.List.Concat.{flat_map-cons}
use Rattle.std.proofs.lemmas.Grind.{flat_map-append}
use Rattle.playlist_core.specs.Picture.{picture_of}
use Rattle.playlist_core.specs.Order.{AreApart}
use Rattle.playlist_core.proofs.AnyOrderLemmas.{picture-IsPermutation}
use Rattle.asrun_match.specs.declared.aired.AiredRow.{AiredRow}
use Rattle.channel_plan.specs.declared.refusal.Refusal.{Refusal}
use Rattle.playlist_core.specs.declared.day.DayState.{DayState}
use Rattle.playlist_core.specs.declared.day.DayState.TheVariants.{NotThere, Open, Sealed}
use Rattle.asrun_match.specs.Batches.{batch_frames, if_sealed, same_row, same_rows}
use Rattle.asrun_match.specs.Aired.{Airing, FitsIn, Rows, aired, all_rows, rows_picture, has_fields}

pub all_more : (batches : List (List AiredRow)) (rows : List AiredRow)
    → all_rows (batches ++ rows ∷ []) ≡ all_rows batches ++ rows
all_more batches rows =
    flat_map-append (λ (rows : List AiredRow). rows) batches (rows ∷ [])
    ∙ ap (λ xs. all_rows batches ++ xs) (append-nil rows)

pub moved_more : (batches : List (List AiredRow)) (rows old new : List AiredRow) → IsPermutation (all_rows batches) old
    → IsPermutation (old ++ rows) new
    → IsPermutation (all_rows (batches ++ rows ∷ [])) new
moved_more batches rows old new all more =
    subst (λ xs. IsPermutation xs new) (sym (all_more batches rows))
    (IsPermutation-trans (all_rows batches ++ rows) (old ++ rows) new
    (IsPermutation-append_left rows (all_rows batches) old all) more)

-- the picture of the rows in the order of their positions
pub picture_sorted : (batches : List (List AiredRow)) (sorted : Rows) → IsPermutation (all_rows batches) sorted.rows
    → AreApart aired 0 sorted.frames sorted.rows
    → picture_of aired sorted.frames (all_rows batches) ≡ rows_picture sorted
picture_sorted batches sorted all apart =
    picture-IsPermutation aired sorted.frames (all_rows batches) sorted.rows all apart

-- a row that fits in has its fields
fields_one : (day : ℕ) (rows : List AiredRow) → AllByRecursion (FitsIn day) rows → list_all (has_fields day) rows ≡ true
fields_one day [] all = refl
fields_one day (r ∷ rs) all = ap (λ b. b && list_all (has_fields day) rs) all.0.fields ∙ fields_one day rs all.1

pub fields_more : (day : ℕ) (batches : List (List AiredRow)) (rows : List AiredRow)
    → list_all (has_fields day) (all_rows batches) ≡ true → All (FitsIn day) rows
    → list_all (has_fields day) (all_rows (batches ++ rows ∷ [])) ≡ true
fields_more day batches rows before fit =
    ap (list_all (has_fields day)) (all_more batches rows)
    ∙ list_all-append (has_fields day) (all_rows batches) rows
    ∙ ap (λ b. b && list_all (has_fields day) rows) before
    ∙ fields_one day rows (recursion_from_All (FitsIn day) rows fit)

-- rows that lie one behind the other have at most the frames between
apart_frames : (from to : ℕ) (rows : List AiredRow) → AreApart aired from to rows → from + batch_frames rows ≤ to
apart_frames from to [] apart = omega (arith, apart)
apart_frames from to (r ∷ rs) apart =
    omega (arith, sum_by-cons (λ (r : AiredRow). r.frames) r rs, apart.0, apart_frames (r.pos + r.frames) to rs apart.2)

part_frames : (batches : List (List AiredRow)) (k : ℕ) (d : List AiredRow) → k < length batches
    → batch_frames (get_or batches k d) ≤ batch_frames (all_rows batches)
part_frames [] k d lt = absurd (omega (arith, lt))
part_frames (b ∷ bs) zero d lt =
    omega (
      arith,
      ap batch_frames (flat_map-cons (λ (rows : List AiredRow). rows) b bs),
      sum_by-append
          (λ (r : AiredRow). r.frames) b (all_rows bs),
    )
part_frames (b ∷ bs) (suc k) d lt =
    omega (
      arith,
      ap batch_frames (flat_map-cons (λ (rows : List AiredRow). rows) b bs),
      sum_by-append
          (λ (r : AiredRow). r.frames) b (all_rows bs),
      part_frames bs k d (omega (arith, lt)),
    )

-- a batch has at most the day's frames
pub batch_within : (batches : List (List AiredRow)) (sorted : Rows) (k : ℕ) (b : List AiredRow) → k < length batches
    → b ≡ get_or batches k b
    → IsPermutation (all_rows batches) sorted.rows → AreApart aired 0 sorted.frames sorted.rows
    → batch_frames b ≤ sorted.frames
batch_within batches sorted k b lt is all apart =
    omega (
      arith,
      ap batch_frames is,
      part_frames batches k b lt,
      apart_frames 0 sorted.frames sorted.rows apart,
      sum_by-IsPermutation (λ (r : AiredRow). r.frames) (all_rows batches) sorted.rows all,
    )

-- rows of two lists compared one by one
pub same_turn : (one other : List AiredRow) (k : ℕ) (a b : AiredRow) → k < length one → k < length other
    → a ≡ get_or one k a → b ≡ get_or other k b
    → same_rows (drop k one) (drop k other) ≡ (same_row a b && same_rows (drop (k + 1) one) (drop (k + 1) other))
same_turn one other k a b lt lt_other is is_other =
    ap (λ xs. same_rows xs (drop k other)) (drop_more one k a lt ∙ ap (λ r. r ∷ drop (k + 1) one) (sym is))
    ∙ ap (λ ys. same_rows (a ∷ drop (k + 1) one) ys)
    (drop_more other k b lt_other ∙ ap (λ r. r ∷ drop (k + 1) other) (sym is_other))

pub same_longer : (one other : List AiredRow) → (length one ≡ length other → ⊥) → same_rows one other ≡ false
same_longer [] [] other_length = absurd (other_length (omega arith))
same_longer [] (b ∷ ys) other_length = refl
same_longer (a ∷ xs) [] other_length = refl
same_longer (a ∷ xs) (b ∷ ys) other_length =
    ap (λ rest. same_row a b && rest) (same_longer xs ys (λ same. other_length (omega (arith, same))))
    ∙ and-false (same_row a b)

-- what a day that isn't sealed answers, it answers whatever comes
pub not_sealed : (state : DayState) (r : Result Airing Refusal) (e : Refusal)
    → if_sealed {X = Unit {0}} state (Ok tt) ≡ Err e → if_sealed state r ≡ Err e
not_sealed NotThere r e h = cc
not_sealed Open r e h = cc
not_sealed Sealed r e h = cc
