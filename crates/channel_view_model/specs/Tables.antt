-- Part of the promise: tables of all channels, and what can be asked of the rows of a kind.
use Rattle.std.specs.Prelude.{ℕ, List, [], ◌∷◌, Bool, true, ◌&&◌, ◌||◌, ◌==◌, nat_lt, nat_le, map, filter, find}
use Rattle.std.specs.Prelude.{count_by, if◌then◌else◌}
use Rattle.std.specs.List.{list_any, list_all}
use Rattle.std.specs.Option.{option_map}
use Rattle.vault_core.specs.Questions.{Questions, alter}

-- rows of a kind, each with its channel, in the order of the channels and within one in the order of their numbers
abbrev pub Table : Type 0 → Type 0
Table A = List (ℕ × A)

-- of the rows of a larger list that a test picks, seen by f: each question goes over the whole list
abbrev pub picked : {R A : Type 0} → (R → Bool) → (R → A) → List R → Questions A
picked mine f rows =
    record {
      some = λ p. list_any (λ r. mine r && p (f r)) rows;
      first = λ p. option_map f (find (λ r. mine r && p (f r)) rows);
      count = count_by mine rows;
      all = map f (filter mine rows);
    }

-- the rows of channel c, as they are asked of the whole table
abbrev pub of_channel : {A : Type 0} → ℕ → Table A → Questions A
of_channel c table = picked (λ r. r.0 == c) (λ r. r.1) table

-- the rows without their channels
abbrev pub rows_alone : {A : Type 0} → Table A → List A
rows_alone table = map (λ r. r.1) table

-- the rows of channel c, as a list
abbrev pub rows_of : {A : Type 0} → ℕ → Table A → List A
rows_of c table = rows_alone (filter (λ r. r.0 == c) table)

-- x in front of the first that comes after it, or at the end
abbrev pub put : {R : Type 0} → (R → Bool) → R → List R → List R
put comes_after x [] = x ∷ []
put comes_after x (r ∷ rs) = if comes_after r then x ∷ r ∷ rs else r ∷ put comes_after x rs

-- a new row of channel c, behind its others
abbrev pub add_row : {A : Type 0} → ℕ → A → Table A → Table A
add_row c x table = put (λ r. nat_lt c r.0) (c, x) table

-- the rows of channel c that pass a test, changed
abbrev pub alter_row : {A : Type 0} → ℕ → (A → Bool) → (A → A) → Table A → Table A
alter_row c p f table = alter (λ r. r.0 == c && p r.1) (λ r. (r.0, f r.1)) table

-- a row of channel c, in the place of its row with the same key, or in the order of the keys
abbrev pub replace_row : {A : Type 0} → (A → ℕ) → ℕ → A → Table A → Table A
replace_row key c x [] = (c, x) ∷ []
replace_row key c x (r ∷ rs) =
    if r.0 == c && key r.1 == key x then (c, x) ∷ rs else
    if nat_lt c r.0 || (r.0 == c && nat_lt (key x) (key r.1)) then (c, x) ∷ r ∷ rs else
    r ∷ replace_row key c x rs

-- channel after channel
abbrev pub is_in_order : {A : Type 0} → Table A → Bool
is_in_order [] = true
is_in_order (r ∷ rs) = list_all (λ s. nat_le r.0 s.0) rs && is_in_order rs
