-- Frames that rows cover at most once, and rows that air none again.
use Rattle.std.proofs.Common.{◌≡◌, ◌∙◌, ℕ, zero, suc, ◌+◌, ◌-◌, ◌<◌, ◌≤◌, List, [], ◌∷◌, ◌++◌, Bool, true, false, cond}
use Rattle.std.proofs.Common.{Option, Some, None, length, get_or, drop, min, refl, sym, ap, subst, ⊎_elim, arith}
use Rattle.std.specs.Prelude.{◌||◌, nat_lt, is_some, count_by, All, IsPermutation, if◌then◌else◌}
use Rattle.std.specs.List.{AllByRecursion}
use Rattle.std.proofs.lemmas.Bool.{cases_lt, lt-ltb}
use Rattle.std.proofs.lemmas.Bool.Decides.{nat_tests}
use Rattle.std.proofs.lemmas.List.{drop_more}
use Rattle.std.proofs.lemmas.List.Elements.{recursion_from_All}
use Rattle.std.proofs.lemmas.List.Sums.{sum_by-append, sum_by-cons}
use Rattle.std.proofs.lemmas.List.Sorted.{sum_by-IsPermutation}
use Rattle.playlist_core.specs.Picture.{is_painted, least, first_painted, picture_of, paint}
use Rattle.playlist_core.specs.Order.{AreApart}
use Rattle.playlist_core.proofs.PictureLemmas.{shown, covers_in, covers_from, covers_within, is_painted-picture}
use Rattle.playlist_core.proofs.PictureLemmas.{apart_within, least_same, least_none}
use Rattle.playlist_core.proofs.FullLemmas.{none_least, covering, covered_at_most_once}
use Rattle.playlist_core.proofs.AnyOrderLemmas.{Fits}
use Rattle.asrun_match.specs.declared.aired.AiredRow.{AiredRow}
use Rattle.asrun_match.specs.Aired.{FitsIn, Rows, aired, first_of, first_twice, rows_picture, sooner}
use Rattle.asrun_match.proofs.KeptLemmas.{none_first}

-- how many rows cover a frame
abbrev pub times : ℕ → List AiredRow → ℕ
times p rows = count_by (covering aired p) rows

abbrev pub is_covered : List AiredRow → ℕ → Bool
is_covered rows p = nat_lt 0 (times p rows)

-- no frame is covered twice, by rows of one list or of both
abbrev pub CoverOnce : List AiredRow → List AiredRow → Type 0
CoverOnce taken rows = (p : ℕ) → times p taken + times p rows ≤ 1

abbrev pub AllFit : ℕ → List AiredRow → Type 0
AllFit frames rows = AllByRecursion (Fits aired frames) rows

pub times-cons : (p : ℕ) (r : AiredRow) (rs : List AiredRow) (b : Bool) → covering aired p r ≡ b
    → times p (r ∷ rs) ≡ cond b 1 0 + times p rs
times-cons p r rs b here =
    sum_by-cons (λ (x : AiredRow). cond (covering aired p x) 1 0) r rs ∙ ap (λ b. cond b 1 0 + times p rs) here

times-append : (p : ℕ) (xs ys : List AiredRow) → times p (xs ++ ys) ≡ times p xs + times p ys
times-append p xs ys = sum_by-append (λ (x : AiredRow). cond (covering aired p x) 1 0) xs ys

pub times-moved : (p : ℕ) (xs ys : List AiredRow) → IsPermutation xs ys → times p ys ≡ times p xs
times-moved p xs ys moved = sum_by-IsPermutation (λ (x : AiredRow). cond (covering aired p x) 1 0) xs ys moved

pub once_moved : (taken xs ys : List AiredRow) → IsPermutation xs ys → CoverOnce taken xs → CoverOnce taken ys
once_moved taken xs ys moved once p = let one = once p in omega (arith, one, times-moved p xs ys moved)

-- rows that fit in, and rows that lie apart, fit
pub fit_of : (frames : ℕ) (rows : List AiredRow) → AllByRecursion (FitsIn frames) rows → AllFit frames rows
fit_of frames [] fit = tt
fit_of frames (r ∷ rs) fit = ((fit.0.some, fit.0.within), fit_of frames rs fit.1)

pub fit_of_apart : (from to : ℕ) (rows : List AiredRow) → AreApart aired from to rows → AllFit to rows
fit_of_apart from to [] apart = tt
fit_of_apart from to (r ∷ rs) apart =
    ((apart.1, apart_within aired (r.pos + r.frames) to rs apart.2), fit_of_apart (r.pos + r.frames) to rs apart.2)

-- what is shown is covered
shown_covered : (rows : List AiredRow) (p : ℕ) → is_some (shown aired rows p) ≡ is_covered rows p
shown_covered [] p = refl
shown_covered (r ∷ rs) p = by (covering aired p r) refl (shown_covered rs p)
  where
    by : (b : Bool) → covering aired p r ≡ b → is_some (shown aired rs p) ≡ is_covered rs p
        → is_some (shown aired (r ∷ rs) p) ≡ is_covered (r ∷ rs) p
    by true here rest =
        let more = times-cons p r rs true here in
        let some : 0 < times p (r ∷ rs) = omega (arith, more) in
        ap (λ b. is_some (if b then Some ((aired r).shows (p - r.pos)) else shown aired rs p)) here
        ∙ sym (lt-ltb 0 (times p (r ∷ rs)) some)
    by false here rest =
        let more = times-cons p r rs false here in
        let same : times p rs ≡ times p (r ∷ rs) = omega (arith, more) in
        ap (λ b. is_some (if b then Some ((aired r).shows (p - r.pos)) else shown aired rs p)) here ∙ rest
        ∙ ap (nat_lt 0) same

-- the first painted frame of a row is the first that is covered
painted_first : (frames : ℕ) (rows : List AiredRow) (r : AiredRow) → r.pos + r.frames ≤ frames
    → first_painted r.pos r.frames (picture_of aired frames rows) ≡ least (is_covered rows) r.pos r.frames
painted_first frames rows r within =
    least_same (is_painted (picture_of aired frames rows)) (is_covered rows) r.pos r.frames
    (λ q le lt. is_painted-picture aired frames rows q (omega (arith, within, lt)) ∙ shown_covered rows q)

free_none : (frames : ℕ) (taken : List AiredRow) (r : AiredRow) → r.pos + r.frames ≤ frames
    → first_painted r.pos r.frames (picture_of aired frames taken) ≡ None
    → (p : ℕ) → covering aired p r ≡ true → times p taken ≡ 0
free_none frames taken r within free p here =
    let bare : is_covered taken p ≡ false =
    none_least (is_covered taken) r.pos r.frames p (sym (painted_first frames taken r within) ∙ free)
    (covers_from r.pos r.frames p here) (covers_within r.pos r.frames p here) in
    grind (arith, nat_tests, bare)

none_free : (frames : ℕ) (taken : List AiredRow) (r : AiredRow) → r.pos + r.frames ≤ frames
    → ((p : ℕ) → covering aired p r ≡ true → times p taken ≡ 0)
    → first_painted r.pos r.frames (picture_of aired frames taken) ≡ None
none_free frames taken r within bare =
    painted_first frames taken r within
    ∙ least_none (is_covered taken) r.pos r.frames
    (λ q le lt. ap (nat_lt 0) (bare q (covers_in r.pos r.frames q le lt)))

once_more : (frames : ℕ) (taken : List AiredRow) (r : AiredRow) → r.pos + r.frames ≤ frames
    → ((p : ℕ) → times p taken ≤ 1)
    → first_painted r.pos r.frames (picture_of aired frames taken) ≡ None → (p : ℕ) → times p (r ∷ taken) ≤ 1
once_more frames taken r within once free p = by (covering aired p r) refl
  where
    by : (b : Bool) → covering aired p r ≡ b → times p (r ∷ taken) ≤ 1
    by true here =
        let more = times-cons p r taken true here in let bare = free_none frames taken r within free p here in
        omega (arith, more, bare)
    by false here = let more = times-cons p r taken false here in let one = once p in omega (arith, more, one)

-- a row goes from one list to the other
across : (p : ℕ) (r : AiredRow) (taken rs : List AiredRow)
    → times p (r ∷ taken) + times p rs ≡ times p taken + times p (r ∷ rs)
across p r taken rs =
    let here = times-cons p r taken (covering aired p r) refl in
    let there = times-cons p r rs (covering aired p r) refl in
    omega (arith, here, there)

-- rows that air none again cover each frame once at most
pub once-from_none : (frames : ℕ) (taken rows : List AiredRow) → AllFit frames rows → ((p : ℕ) → times p taken ≤ 1)
    → first_twice (picture_of aired frames taken) rows ≡ None → CoverOnce taken rows
once-from_none frames taken [] fit once none p = let one = once p in omega (arith, one)
once-from_none frames taken (r ∷ rs) fit once none p =
    let parts =
    none_first (first_painted r.pos r.frames (picture_of aired frames taken))
    (first_twice (paint (aired r) (picture_of aired frames taken)) rs) none in
    let rest = once-from_none frames (r ∷ taken) rs fit.1 (once_more frames taken r fit.0.1 once parts.0) parts.1 p in
    omega (arith, rest, across p r taken rs)

-- and others do
pub none-from_once : (frames : ℕ) (taken rows : List AiredRow) → AllFit frames rows → CoverOnce taken rows
    → first_twice (picture_of aired frames taken) rows ≡ None
none-from_once frames taken [] fit once = refl
none-from_once frames taken (r ∷ rs) fit once =
    let free : first_painted r.pos r.frames (picture_of aired frames taken) ≡ None =
    none_free frames taken r fit.0.1
    (λ p here. let more = times-cons p r rs true here in let one = once p in omega (arith, more, one)) in
    let rest : first_twice (paint (aired r) (picture_of aired frames taken)) rs ≡ None =
    none-from_once frames (r ∷ taken) rs fit.1 (λ p. let one = once p in omega (arith, across p r taken rs, one)) in
    ap (λ o. first_of o (first_twice (paint (aired r) (picture_of aired frames taken)) rs)) free ∙ rest

pub once_each : (frames : ℕ) (rows : List AiredRow) → AreApart aired 0 frames rows → (p : ℕ) → times p rows ≤ 1
once_each frames rows apart p = covered_at_most_once aired p 0 frames rows apart

-- whether rows air a frame again doesn't depend on their order
pub none_moved : (frames : ℕ) (taken xs ys : List AiredRow) → AreApart aired 0 frames taken → AllFit frames xs
    → AllFit frames ys → IsPermutation xs ys
    → first_twice (picture_of aired frames taken) xs ≡ None → first_twice (picture_of aired frames taken) ys ≡ None
none_moved frames taken xs ys apart fit_xs fit_ys moved none =
    none-from_once frames taken ys fit_ys
    (once_moved taken xs ys moved (once-from_none frames taken xs fit_xs (once_each frames taken apart) none))

-- nor do they among themselves
pub none_alone : (frames : ℕ) (taken rows : List AiredRow) → AreApart aired 0 frames taken → AllFit frames rows
    → first_twice (picture_of aired frames taken) rows ≡ None
    → first_twice (picture_of aired frames []) rows ≡ None
none_alone frames taken rows apart fit none =
    none-from_once frames [] rows fit
    (λ p. let one = once-from_none frames taken rows fit (once_each frames taken apart) none p in
    omega (arith, one))

-- Rows each of which lies beside those that were aired.
abbrev pub AllFree : ℕ → List AiredRow → List AiredRow → Type 0
AllFree frames taken rows =
    All (λ (r : AiredRow). first_painted r.pos r.frames (picture_of aired frames taken) ≡ None) rows

bare_there : (frames : ℕ) (taken rows : List AiredRow) → AllFit frames rows → AllFree frames taken rows → (p : ℕ)
    → 0 < times p rows → times p taken ≡ 0
bare_there frames taken [] fit free p lt = absurd (omega (arith, lt))
bare_there frames taken (r ∷ rs) fit free p lt =
    by (covering aired p r) refl (bare_there frames taken rs fit.1 (λ k d lt. free (suc k) d (omega (arith, lt))) p)
  where
    by : (b : Bool) → covering aired p r ≡ b → (0 < times p rs → times p taken ≡ 0) → times p taken ≡ 0
    by true here rest = free_none frames taken r fit.0.1 (free 0 r (omega arith)) p here
    by false here rest = let more = times-cons p r rs false here in rest (omega (arith, more, lt))

pub none-from_free : (frames : ℕ) (taken rows : List AiredRow) → AreApart aired 0 frames taken
    → AreApart aired 0 frames rows → AllFree frames taken rows
    → first_twice (picture_of aired frames taken) rows ≡ None
none-from_free frames taken rows apart apart_rows free =
    none-from_once frames taken rows (fit_of_apart 0 frames rows apart_rows) (λ p. by p)
  where
    by : (p : ℕ) → times p taken + times p rows ≤ 1
    by p =
        let once = once_each frames taken apart p in
        let once_rows = once_each frames rows apart_rows p in
        ⊎_elim
        (λ some. let bare = bare_there frames taken rows (fit_of_apart 0 frames rows apart_rows) free p some in
        omega (arith, bare, once_rows))
        (λ none. omega (arith, none, once))
        (cases_lt 0 (times p rows))

fit_at : (frames : ℕ) (rows : List AiredRow) (k : ℕ) (d : AiredRow) → AllFit frames rows → k < length rows
    → Fits aired frames (get_or rows k d)
fit_at frames [] k d fit lt = absurd (omega (arith, lt))
fit_at frames (r ∷ rs) zero d fit lt = fit.0
fit_at frames (r ∷ rs) (suc k) d fit lt = fit_at frames rs k d fit.1 (omega (arith, lt))

-- one of rows that lie apart
pub fits : (frames : ℕ) (rows : List AiredRow) (k : ℕ) (r : AiredRow) → AreApart aired 0 frames rows → k < length rows
    → r ≡ get_or rows k r → Fits aired frames r
fits frames rows k r apart lt is =
    subst (Fits aired frames) (sym is) (fit_at frames rows k r (fit_of_apart 0 frames rows apart) lt)

times_at : (p : ℕ) (rows : List AiredRow) (k : ℕ) (d : AiredRow) → k < length rows
    → covering aired p (get_or rows k d) ≡ true → 1 ≤ times p rows
times_at p [] k d lt here = absurd (omega (arith, lt))
times_at p (r ∷ rs) zero d lt here = let more = times-cons p r rs true here in omega (arith, more)
times_at p (r ∷ rs) (suc k) d lt here =
    let more = times-cons p r rs (covering aired p r) refl in
    let rest = times_at p rs k d (omega (arith, lt)) here in
    omega (arith, more, rest)

pub free-from_none : (frames : ℕ) (taken rows : List AiredRow) (k : ℕ) (d : AiredRow) → AreApart aired 0 frames taken
    → AreApart aired 0 frames rows
    → first_twice (picture_of aired frames taken) rows ≡ None → k < length rows
    → first_painted (get_or rows k d).pos (get_or rows k d).frames (picture_of aired frames taken) ≡ None
free-from_none frames taken rows k d apart apart_rows none lt =
    let once =
    once-from_none frames taken rows (fit_of_apart 0 frames rows apart_rows) (once_each frames taken apart) none in
    none_free frames taken (get_or rows k d) (fit_at frames rows k d (fit_of_apart 0 frames rows apart_rows) lt).1
    (λ p here. let one = once p in let there = times_at p rows k d lt here in omega (arith, one, there))

-- The first frame that a row airs again, of those of the day and of those of its batch.

least_from : (f : ℕ → Bool) (p n q : ℕ) → least f p n ≡ Some q → p ≤ q
unfolding least
least_from f p zero q found = absurd (cc)
least_from f p (suc n) q found = by (f p) refl (least_from f (p + 1) n q)
  where
    by : (b : Bool) → f p ≡ b → (least f (p + 1) n ≡ Some q → p + 1 ≤ q) → p ≤ q
    by true here rest =
        let is : Some p ≡ Some q = sym (ap (λ b. if b then Some p else least f (p + 1) n) here) ∙ found in
        let same : p ≡ q = cc in
        omega (arith, same)
    by false here rest = omega (arith, rest (sym (ap (λ b. if b then Some p else least f (p + 1) n) here) ∙ found))

sooner_here : (p : ℕ) (o : Option ℕ) → ((q : ℕ) → o ≡ Some q → p ≤ q) → sooner (Some p) o ≡ Some p
sooner_here p None from = refl
sooner_here p (Some q) from =
    let le = from q refl in let same : min p q ≡ p = omega (arith, le) in ap (λ n. Some n) same

sooner_there : (p : ℕ) (o : Option ℕ) → ((q : ℕ) → o ≡ Some q → p ≤ q) → sooner o (Some p) ≡ Some p
sooner_there p None from = refl
sooner_there p (Some q) from =
    let le = from q refl in let same : min q p ≡ p = omega (arith, le) in ap (λ n. Some n) same

least_either : (f g : ℕ → Bool) (p n : ℕ) → sooner (least f p n) (least g p n) ≡ least (λ q. f q || g q) p n
unfolding least
least_either f g p zero = refl
least_either f g p (suc n) = by (f p) (g p) refl refl (least_either f g (p + 1) n)
  where
    by : (a b : Bool) → f p ≡ a → g p ≡ b
        → sooner (least f (p + 1) n) (least g (p + 1) n) ≡ least (λ q. f q || g q) (p + 1) n
        → sooner (if f p then Some p else least f (p + 1) n) (if g p then Some p else least g (p + 1) n)
        ≡ (if f p || g p then Some p else least (λ q. f q || g q) (p + 1) n)
    by true b one other rest =
        ap (λ a. sooner (if a then Some p else least f (p + 1) n) (if g p then Some p else least g (p + 1) n)) one
        ∙ sooner_here p (if g p then Some p else least g (p + 1) n) (λ q found. least_from g p (suc n) q found)
        ∙ sym (ap (λ a. if a || g p then Some p else least (λ q. f q || g q) (p + 1) n) one)
    by false true one other rest =
        ap (λ b. sooner (if f p then Some p else least f (p + 1) n) (if b then Some p else least g (p + 1) n)) other
        ∙ sooner_there p (if f p then Some p else least f (p + 1) n) (λ q found. least_from f p (suc n) q found)
        ∙ sym ((λ i. if one i || other i then Some p else least (λ q. f q || g q) (p + 1) n))
    by false false one other rest =
        (λ i. sooner (if one i then Some p else least f (p + 1) n) (if other i then Some p else least g (p + 1) n))
        ∙ rest
        ∙ sym (λ i. if one i || other i then Some p else least (λ q. f q || g q) (p + 1) n)

covered_either : (earlier taken : List AiredRow) (p : ℕ)
    → (is_covered taken p || is_covered earlier p) ≡ is_covered (earlier ++ taken) p
covered_either earlier taken p =
    let all = times-append p earlier taken in
    grind (arith, nat_tests, all)

pub sooner_is : (frames : ℕ) (earlier taken : List AiredRow) (r : AiredRow) → r.pos + r.frames ≤ frames
    → sooner (first_painted r.pos r.frames (picture_of aired frames taken))
    (first_painted r.pos r.frames (picture_of aired frames earlier))
    ≡ first_painted r.pos r.frames (picture_of aired frames (earlier ++ taken))
sooner_is frames earlier taken r within =
    (λ i. sooner (painted_first frames taken r within i) (painted_first frames earlier r within i))
    ∙ least_either (is_covered taken) (is_covered earlier) r.pos r.frames
    ∙ least_same (λ q. is_covered taken q || is_covered earlier q) (is_covered (earlier ++ taken)) r.pos r.frames
    (λ q le lt. covered_either earlier taken q)
    ∙ sym (painted_first frames (earlier ++ taken) r within)

covered_more : (r : AiredRow) (xs ys : List AiredRow) (p : ℕ) → is_covered xs p ≡ is_covered ys p
    → is_covered (r ∷ xs) p ≡ is_covered (r ∷ ys) p
covered_more r xs ys p same =
    let one = times-cons p r xs (covering aired p r) refl in
    let other = times-cons p r ys (covering aired p r) refl in
    by (covering aired p r) one other
  where
    by : (b : Bool) → times p (r ∷ xs) ≡ cond b 1 0 + times p xs → times p (r ∷ ys) ≡ cond b 1 0 + times p ys
        → is_covered (r ∷ xs) p ≡ is_covered (r ∷ ys) p
    by true one other =
        lt-ltb 0 (times p (r ∷ xs)) (omega (arith, one)) ∙ sym (lt-ltb 0 (times p (r ∷ ys)) (omega (arith, other)))
    by false one other =
        let one_is : times p (r ∷ xs) ≡ times p xs = omega (arith, one) in
        let other_is : times p ys ≡ times p (r ∷ ys) = omega (arith, other) in
        ap (nat_lt 0) one_is ∙ same ∙ ap (nat_lt 0) other_is

-- only which frames are covered decides
pub twice_same : (frames : ℕ) (xs ys rows : List AiredRow) → AllFit frames rows
    → ((p : ℕ) → is_covered xs p ≡ is_covered ys p)
    → first_twice (picture_of aired frames xs) rows ≡ first_twice (picture_of aired frames ys) rows
twice_same frames xs ys [] fit same = refl
twice_same frames xs ys (r ∷ rs) fit same =
    let here : first_painted r.pos r.frames (picture_of aired frames xs)
    ≡ first_painted r.pos r.frames (picture_of aired frames ys) =
    painted_first frames xs r fit.0.1
    ∙ least_same (is_covered xs) (is_covered ys) r.pos r.frames (λ q le lt. same q)
    ∙ sym (painted_first frames ys r fit.0.1) in
    let rest : first_twice (paint (aired r) (picture_of aired frames xs)) rs
    ≡ first_twice (paint (aired r) (picture_of aired frames ys)) rs =
    twice_same frames (r ∷ xs) (r ∷ ys) rs fit.1 (λ p. covered_more r xs ys p (same p)) in
    (λ i. first_of (here i) (rest i))

-- a row of a batch joins those before it
pub twice_moved : (frames : ℕ) (r : AiredRow) (earlier new taken rows : List AiredRow) → AllFit frames rows
    → IsPermutation (r ∷ earlier) new
    → first_twice (picture_of aired frames (new ++ taken)) rows
    ≡ first_twice (paint (aired r) (picture_of aired frames (earlier ++ taken))) rows
twice_moved frames r earlier new taken rows fit moved =
    twice_same frames (new ++ taken) (r ∷ (earlier ++ taken)) rows fit
    (λ p. ap (nat_lt 0)
    (times-append p new taken
    ∙ ap (λ n. n + times p taken) (times-moved p (r ∷ earlier) new moved)
    ∙ sym (times-append p (r ∷ earlier) taken)))

fit_drop : (frames k : ℕ) (rows : List AiredRow) → AllFit frames rows → AllFit frames (drop k rows)
fit_drop frames zero rows fit = fit
fit_drop frames (suc k) [] fit = fit
fit_drop frames (suc k) (r ∷ rs) fit = fit_drop frames k rs fit.1

-- A turn of a loop that looks for the first frame that a row airs again.
module _ (frames : ℕ) (earlier : Rows) (taken rows : List AiredRow) (r : AiredRow) (i : ℕ)
    (same : earlier.frames ≡ frames) (fit : All (FitsIn frames) rows) (lt : i < length rows) (is : r ≡ get_or rows i r)
  where
    pub turn : (of_day of_batch o : Option ℕ)
        → ((day : ℕ) → AreApart aired 0 day taken → r.pos + r.frames ≤ day
        → of_day ≡ first_painted r.pos r.frames (picture_of aired day taken)) → AreApart aired 0 frames taken
        → of_batch ≡ first_painted r.pos r.frames (rows_picture earlier) → sooner of_day of_batch ≡ o
        → first_twice (picture_of aired frames (earlier.rows ++ taken)) (drop i rows)
        ≡ first_of o
        (first_twice (paint (aired r) (picture_of aired frames (earlier.rows ++ taken))) (drop (i + 1) rows))
    turn of_day of_batch o day_is apart batch_is found =
        let within : r.pos + r.frames ≤ frames = (subst (FitsIn frames) (sym is) (fit i r lt)).within in
        let rest = drop (i + 1) rows in
        let P = picture_of aired frames (earlier.rows ++ taken) in
        let of_row : first_painted r.pos r.frames P ≡ o =
        sym (sooner_is frames earlier.rows taken r within)
        ∙ (λ k. sooner (sym (day_is frames apart within) k)
        (first_painted r.pos r.frames (picture_of aired (sym same k) earlier.rows)))
        ∙ ap (sooner of_day) (sym batch_is)
        ∙ found in
        ap (first_twice P) (drop_more rows i r lt ∙ ap (λ (x : AiredRow). x ∷ rest) (sym is))
        ∙ ap (λ (x : Option ℕ). first_of x (first_twice (paint (aired r) P) rest)) of_row

    -- the row is put to the earlier ones, where it airs none again
    pub turned : (new : List AiredRow) (of_day of_batch : Option ℕ)
        → ((day : ℕ) → AreApart aired 0 day taken → r.pos + r.frames ≤ day
        → of_day ≡ first_painted r.pos r.frames (picture_of aired day taken)) → AreApart aired 0 frames taken
        → of_batch ≡ first_painted r.pos r.frames (rows_picture earlier) → sooner of_day of_batch ≡ None
        → IsPermutation (r ∷ earlier.rows) new
        → first_twice (picture_of aired frames (new ++ taken)) (drop (i + 1) rows)
        ≡ first_twice (picture_of aired frames (earlier.rows ++ taken)) (drop i rows)
    turned new of_day of_batch day_is apart batch_is none moved =
        twice_moved frames r earlier.rows new taken (drop (i + 1) rows)
        (fit_drop frames (i + 1) rows (fit_of frames rows (recursion_from_All (FitsIn frames) rows fit))) moved
        ∙ sym (turn of_day of_batch None day_is apart batch_is none)

pub sooner_none : (a b : Option ℕ) → sooner a b ≡ None → b ≡ None
sooner_none None b h = h
sooner_none (Some p) None h = refl
sooner_none (Some p) (Some q) h = absurd (cc)
