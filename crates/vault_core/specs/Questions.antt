-- Part of the promise: what can be asked of the rows of a kind.
use Rattle.std.specs.Prelude.{◌≡◌, ℕ, List, [], ◌∷◌, Bool, Option, map, length, find, is_some, if◌then◌else◌, ◌==◌}
use Rattle.std.specs.Prelude.{nat_lt}
use Rattle.std.specs.List.{list_any}

-- Does some row pass a test, which is the first that does, how many are there, and which.
pub record Questions (A : Type 0) : Type 0 where
  pub some : (A → Bool) → Bool
  pub first : (A → Bool) → Option A
  pub count : ℕ
  pub all : List A

-- of a list by itself
abbrev pub listed : {A : Type 0} → List A → Questions A
listed xs = record { some = λ p. list_any p xs; first = λ p. find p xs; count = length xs; all = xs }

-- the rows, those that pass a test changed
abbrev pub alter : {R : Type 0} → (R → Bool) → (R → R) → List R → List R
alter p f rows = map (λ r. if p r then f r else r) rows

-- a row in the place of the one with its number, or in the order of the numbers
abbrev pub replaced : {R : Type 0} → (R → ℕ) → R → List R → List R
replaced number x [] = x ∷ []
replaced number x (r ∷ rows) =
    if number r == number x then x ∷ rows else
    if nat_lt (number x) (number r) then x ∷ r ∷ rows else
    r ∷ replaced number x rows

-- Its questions agree with one another: some row passes a test where there is a first one that does, which is the first
-- among all, and these are counted.
pub record IsConsistent {A : Type 0} (rows : Questions A) : Type 0 where
  pub some : (p : A → Bool) → rows.some p ≡ is_some (rows.first p)
  pub first : (p : A → Bool) → rows.first p ≡ find p rows.all
  pub count : rows.count ≡ length rows.all
