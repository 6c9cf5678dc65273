-- Within one item and one aired row the status doesn't change.
use Rattle.std.proofs.Common.{◌≡◌, ℕ, zero, suc, ◌+◌, ◌-◌, ◌<◌, ◌≤◌, ◌∷◌, ◌++◌, Bool, not, Option, Some, None, refl}
use Rattle.std.proofs.Common.{◌∙◌, ap, arith}
use Rattle.std.specs.Prelude.{◌==◌, ◌&&◌, replicate, if◌then◌else◌}
use Rattle.std.proofs.lemmas.Bool.Decides.{nat_tests}
use Rattle.playlist_core.specs.declared.source.Source.{Source}
use Rattle.playlist_core.specs.declared.source.Source.TheVariants.{Black, Bars, Own, Lent}
use Rattle.playlist_core.specs.Source.{source_frame}
use Rattle.playlist_core.specs.Item.{Cell}
use Rattle.playlist_core.proofs.PictureLemmas.{table}
use Rattle.asrun_match.specs.declared.status.Status.{Status}
use Rattle.asrun_match.specs.declared.status.Status.TheVariants as statuses
use Rattle.asrun_match.specs.Aired.{AiredCell, frame_from}
use Rattle.asrun_match.specs.Status.{names, status_of, statuses_of}

-- two frames that go on in step stay equal, or stay apart
in_step : (f g a b p q : ℕ) → a ≤ p → b ≤ p → a ≤ q → b ≤ q
    → (f + (p - a) == g + (p - b)) ≡ (f + (q - a) == g + (q - b))
in_step f g a b p q le_ap le_bp le_aq le_bq = grind (arith, nat_tests)

abbrev compared : Bool → ℕ → ℕ → Status
compared same x y = if not same then statuses.Wrong else if x == y then statuses.Ok else statuses.Slip

pub steady : (f g a b p q : ℕ) (s t : Source) → a ≤ p → b ≤ p → a ≤ q → b ≤ q
    → compared (names (Some t) s) (source_frame s f (p - a)) (frame_from (Some t) g (p - b))
    ≡ compared (names (Some t) s) (source_frame s f (q - a)) (frame_from (Some t) g (q - b))
steady f g a b p q (Own k) (Own m) le_ap le_bp le_aq le_bq =
    ap (λ e. if not (k == m) then statuses.Wrong else if e then statuses.Ok else statuses.Slip)
    (in_step f g a b p q le_ap le_bp le_aq le_bq)
steady f g a b p q (Lent c k) (Lent d m) le_ap le_bp le_aq le_bq =
    ap (λ e. if not (c == d && k == m) then statuses.Wrong else if e then statuses.Ok else statuses.Slip)
    (in_step f g a b p q le_ap le_bp le_aq le_bq)
steady f g a b p q Black Black le_ap le_bp le_aq le_bq = refl
steady f g a b p q Black Bars le_ap le_bp le_aq le_bq = refl
steady f g a b p q Black (Own m) le_ap le_bp le_aq le_bq = refl
steady f g a b p q Black (Lent d m) le_ap le_bp le_aq le_bq = refl
steady f g a b p q Bars Black le_ap le_bp le_aq le_bq = refl
steady f g a b p q Bars Bars le_ap le_bp le_aq le_bq = refl
steady f g a b p q Bars (Own m) le_ap le_bp le_aq le_bq = refl
steady f g a b p q Bars (Lent d m) le_ap le_bp le_aq le_bq = refl
steady f g a b p q (Own k) Black le_ap le_bp le_aq le_bq = refl
steady f g a b p q (Own k) Bars le_ap le_bp le_aq le_bq = refl
steady f g a b p q (Own k) (Lent d m) le_ap le_bp le_aq le_bq = refl
steady f g a b p q (Lent c k) Black le_ap le_bp le_aq le_bq = refl
steady f g a b p q (Lent c k) Bars le_ap le_bp le_aq le_bq = refl
steady f g a b p q (Lent c k) (Own m) le_ap le_bp le_aq le_bq = refl

pub steady_reel : (f g a b p q : ℕ) (s : Source) (t : Option Source) → a ≤ p → b ≤ p → a ≤ q → b ≤ q
    → compared (names t s) (source_frame s f (p - a)) (frame_from t g (p - b))
    ≡ compared (names t s) (source_frame s f (q - a)) (frame_from t g (q - b))
steady_reel f g a b p q s None le_ap le_bp le_aq le_bq = refl
steady_reel f g a b p q s (Some t) le_ap le_bp le_aq le_bq = steady f g a b p q s t le_ap le_bp le_aq le_bq

-- cell by cell, of two tables
pub statuses-table : (f : ℕ → Option Cell) (g : ℕ → Option AiredCell) (p n : ℕ)
    → statuses_of (table f p n) (table g p n) ≡ table (λ q. status_of (f q) (g q)) p n
statuses-table f g p zero = refl
statuses-table f g p (suc n) = ap (λ list. status_of (f p) (g p) ∷ list) (statuses-table f g (p + 1) n)

module _ {A : Type 0} where
  pub table-split : (f : ℕ → A) (p m n : ℕ) → table f p (m + n) ≡ table f p m ++ table f (p + m) n
  table-split f p zero n =
      let same : 0 + n ≡ n = omega arith in
      let here : p ≡ p + 0 = omega arith in
      ap (table f p) same ∙ ap (λ q. table f q n) here
  table-split f p (suc m) n =
      let more : suc m + n ≡ suc (m + n) = omega arith in
      let there : (p + 1) + m ≡ p + suc m = omega arith in
      ap (table f p) more
      ∙ ap (λ list. f p ∷ list) (table-split f (p + 1) m n)
      ∙ ap (λ q. f p ∷ (table f (p + 1) m ++ table f q n)) there

  pub table-steady : (f : ℕ → A) (x : A) (p n : ℕ) → ((q : ℕ) → p ≤ q → q < p + n → f q ≡ x)
      → table f p n ≡ replicate n x
  table-steady f x p zero same = refl
  table-steady f x p (suc n) same =
      ap (λ y. y ∷ table f (p + 1) n) (same p (omega arith) (omega arith))
      ∙ ap (λ list. x ∷ list) (table-steady f x (p + 1) n (λ q le lt. same q (omega arith) (omega arith)))
