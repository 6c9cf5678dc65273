-- Rows in the order of their positions.
use Rattle.std.specs.Prelude.{◌≡◌, ℕ, ◌+◌, ◌≤◌, ◌<◌, List, [], ◌∷◌, Bool, if◌then◌else◌}
use Rattle.playlist_core.specs.Picture.{Strip}

-- the frame behind a strip's last
abbrev pub end_of : {C : Type 0} → Strip C → ℕ
end_of s = s.pos + s.frames

-- Rows that lie one behind the other, from one frame on and up to another: none is empty, and each begins
-- where the one before it ends, or later.
abbrev pub AreApart : {R C : Type 0} → (R → Strip C) → ℕ → ℕ → List R → Type 0
AreApart strip from to [] = from ≤ to
AreApart strip from to (r ∷ rs) =
    (from ≤ (strip r).pos) × (0 < (strip r).frames) × AreApart strip (end_of (strip r)) to rs

-- rows one right behind the other
abbrev pub AreEndToEnd : {R C : Type 0} → (R → Strip C) → ℕ → ℕ → List R → Type 0
AreEndToEnd strip from to [] = from ≡ to
AreEndToEnd strip from to (r ∷ rs) =
    ((strip r).pos ≡ from) × (0 < (strip r).frames) × AreEndToEnd strip (end_of (strip r)) to rs

-- x in front of the first that comes after it, or at the end
abbrev pub put : {R : Type 0} → (R → Bool) → R → List R → List R
put comes_after x [] = x ∷ []
put comes_after x (r ∷ rs) = if comes_after r then x ∷ r ∷ rs else r ∷ put comes_after x rs
