-- Where the source of an event is, frame by frame.
use Rattle.std.proofs.Common.{◌≡◌, ℕ, zero, suc, ◌+◌, ◌-◌, ◌*◌, ◌/◌, ◌<◌, ◌≤◌, refl, sym, ap, ◌∙◌, subst, ⊎_elim, arith}
use Rattle.std.proofs.Common.{mul-le-mul, add-zero}
use Rattle.std.specs.Prelude.{Bool, true, ◌==◌, nat_le, nat_lt, Option, Some, None, IfSome}
use Rattle.std.proofs.lemmas.Bool.{cases_lt, ltb-true, le-leb, lt-leb, cond-true, cond-false}
use Rattle.std.proofs.lemmas.Bool.Decides.{nat_tests}
use Rattle.std.proofs.lemmas.Nat.{div-mul-add}
use Rattle.edl.specs.Entry.{EventEntry}
use Rattle.edl_diff.specs.declared.status.Status.{Status}
use Rattle.edl_diff.specs.Shown.{covers, since, source_frame}
use Rattle.edl_diff.specs.Status.{status_of, status_beside, same_source, is_still}
use Rattle.edl_diff.specs.Layers.{ShowsFrom, cell_in}

-- a product of what is below a day fits
pub product_small : (k s d : ℕ) → k ≤ d → s ≤ d → d ≤ 2592000 → k * s ≤ 6718464000000
product_small k s d le_k le_s day =
    let below_k : k ≤ 2592000 = omega arith in
    let below_s : s ≤ 2592000 = omega arith in
    mul-le-mul below_k below_s

pub since_behind : (day first f : ℕ) → first ≤ f → since day first f ≡ f - first
since_behind day first f le = cond-true (nat_le first f) (f - first) ((day - first) + f) (le-leb first f le)

pub since_before : (day first f : ℕ) → f < first → since day first f ≡ (day - first) + f
since_before day first f lt = cond-false (nat_le first f) (f - first) ((day - first) + f) (lt-leb first f lt)

module _ (day from end : ℕ) (e : EventEntry) (shows : ShowsFrom day from end e) where
  pub covered_below : (f : ℕ) → from ≤ f → f < end → since day e.record_first f < e.length
  covered_below f le lt = ltb-true (since day e.record_first f) e.length (shows.covered f le lt)

  -- one frame on
  since_next : (f : ℕ) → from ≤ f → f + 1 < end → end ≤ day
      → since day e.record_first (f + 1) ≡ since day e.record_first f + 1
  since_next f le lt within =
      let below = covered_below f le (omega arith) in
      let short = shows.placed.length in
      let first = shows.placed.record_first in
      ⊎_elim
      (λ before.
      ⊎_elim
      (λ next.
      let one = since_before day e.record_first f before in
      let two = since_before day e.record_first (f + 1) next in
      omega (arith, one, two))
      (λ reached.
      let one = since_before day e.record_first f before in
      absurd (omega (arith, one, below, short, reached, first)))
      (cases_lt (f + 1) e.record_first))
      (λ behind.
      let one = since_behind day e.record_first f behind in
      let two = since_behind day e.record_first (f + 1) (omega arith) in
      omega (arith, one, two))
      (cases_lt f e.record_first)

  since_on : (k : ℕ) → from + k < end → end ≤ day
      → since day e.record_first (from + k) ≡ since day e.record_first from + k
  since_on zero lt within =
      ap (since day e.record_first) (add-zero from) ∙ sym (add-zero (since day e.record_first from))
  since_on (suc k) lt within =
      let here = since_on k (omega arith) within in
      let there : from + suc k ≡ (from + k) + 1 = omega arith in
      let next = since_next (from + k) (omega arith) (omega arith) within in
      ap (since day e.record_first) there ∙ next ∙ ap (λ n. n + 1) here ∙ omega arith

  pub since_later : (f : ℕ) → from ≤ f → f < end → end ≤ day
      → since day e.record_first f ≡ since day e.record_first from + (f - from)
  since_later f le lt within =
      let there : f ≡ from + (f - from) = omega arith in
      ap (since day e.record_first) there ∙ since_on (f - from) (omega arith) within

whole : (k n : ℕ) → 0 < n → (k * n) / n ≡ k
whole k n some = ap (λ m. m / n) (sym (add-zero (k * n))) ∙ div-mul-add k n 0 some

-- a source as long as the record is shown frame after frame
even_frame : (e : EventEntry) (k : ℕ) → e.source_end - e.source_first ≡ e.length → k < e.length
    → source_frame e k ≡ e.source_first + k
unfolding source_frame
even_frame e k even below =
    ap (λ n. e.source_first + (k * n) / e.length) even ∙ ap (λ n. e.source_first + n) (whole k e.length (omega arith))

shift : (a b d : ℕ) → (a + d == b + d) ≡ (a == b)
shift a b d = grind (arith, nat_tests)

module _ (day from end f : ℕ) (le : from ≤ f) (lt : f < end) (within : end ≤ day) where
  frame_later : (e : EventEntry) → ShowsFrom day from end e → e.source_end - e.source_first ≡ e.length
      → source_frame e (since day e.record_first f) ≡ source_frame e (since day e.record_first from) + (f - from)
  frame_later e shows even =
      let first =
      even_frame e (since day e.record_first from) even
      (covered_below day from end e shows from (omega arith) (omega arith)) in
      let later = even_frame e (since day e.record_first f) even (covered_below day from end e shows f le lt) in
      let on = since_later day from end e shows f le lt within in
      omega (arith, first, later, on)

  -- the status stays
  pub steady : (one other : Option EventEntry) → IfSome one (ShowsFrom day from end)
      → IfSome other (ShowsFrom day from end)
      → IfSome one (λ e. e.source_end - e.source_first ≡ e.length)
      → IfSome other (λ e. e.source_end - e.source_first ≡ e.length)
      → status_of (cell_in day one f) (cell_in day other f) ≡ status_of (cell_in day one from) (cell_in day other from)
  steady None None s t even other_even = refl
  steady (Some e) None s t even other_even = refl
  steady None (Some o) s t even other_even = refl
  steady (Some e) (Some o) s t even other_even =
      let x = source_frame e (since day e.record_first from) in
      let y = source_frame o (since day o.record_first from) in
      let test = status_beside (same_source e.reel o.reel) (is_still e.reel) in
      ap (λ n. test (n == source_frame o (since day o.record_first f))) (frame_later e s even)
      ∙ ap (λ n. test (x + (f - from) == n)) (frame_later o t other_even)
      ∙ ap test (shift x y (f - from))
