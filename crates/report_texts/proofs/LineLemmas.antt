-- The lines of a list, one after another.
use Rattle.std.proofs.Common.{◌≡◌, ℕ, ◌<◌, zero, suc, List, [], ◌∷◌, ◌++◌, length, take, drop, get_or, sym, ◌∙◌, ap}
use Rattle.std.proofs.Common.{subst, ◌+◌, arith}
use Rattle.std.specs.Prelude.{Option, Result, Ok, Err, OnErr}
use Rattle.std.specs.List.{flat_map}
use Rattle.std.specs.Io.KnownBytes.{Appends}
use Rattle.std.proofs.lemmas.List.{append_assoc, append-nil, get_or_default, take_more}
use Rattle.std.proofs.lemmas.Grind.{flat_map-append}
use Rattle.report_texts.proofs.PartLemmas.{whole_behind}
pub use Rattle.report_texts.proofs.PartLemmas.{on_err}

-- those in front of one, its own, and those behind it
pub lines_at : {X : Type 0} (f : X → List ℕ) (xs : List X) (i : ℕ) (x : X) → i < length xs → x ≡ get_or xs i x
    → flat_map f xs ≡ flat_map f (take i xs) ++ (f x ++ flat_map f (drop (suc i) xs))
lines_at f [] i x lt is = absurd (omega arith)
lines_at f (y ∷ ys) zero x lt is = ap (λ z. f z ++ flat_map f ys) (sym is)
lines_at f (y ∷ ys) (suc i) x lt is =
    ap (λ (l : List ℕ). f y ++ l) (lines_at f ys i x (omega arith) is)
    ∙ sym (append_assoc (f y) (flat_map f (take i ys)) (f x ++ flat_map f (drop (suc i) ys)))

-- one more line behind those in front of it
pub line_appended : {X : Type 0} (f : X → List ℕ) (xs : List X) (i : ℕ) (x : X) (a b c : Option (List ℕ))
    → i < length xs → x ≡ get_or xs i x
    → Appends a b (flat_map f (take i xs)) → Appends b c (f x) → Appends a c (flat_map f (take (i + 1) xs))
line_appended f xs i x a b c lt is front line =
    subst (Appends a c)
    (ap (λ (l : List ℕ). flat_map f (take i xs) ++ l) (ap f is ∙ sym (append-nil (f (get_or xs i x))))
    ∙ sym (flat_map-append f (take i xs) (get_or xs i x ∷ [])) ∙ ap (flat_map f) (sym (take_more xs i x lt)))
    (whole_behind a b c (flat_map f (take i xs)) (f x) front line)

-- the same of an element as a list's index reads it
pub lines_read : {X : Type 0} (f : X → List ℕ) (xs : List X) (i : ℕ) (d : X) → i < length xs
    → flat_map f xs ≡ flat_map f (take i xs) ++ (f (get_or xs i d) ++ flat_map f (drop (suc i) xs))
lines_read f xs i d lt = lines_at f xs i (get_or xs i d) lt (get_or_default xs i d (get_or xs i d) lt)

pub line_read : {X : Type 0} (f : X → List ℕ) (xs : List X) (i : ℕ) (d : X) (a b c : Option (List ℕ)) → i < length xs
    → Appends a b (flat_map f (take i xs)) → Appends b c (f (get_or xs i d))
    → Appends a c (flat_map f (take (i + 1) xs))
line_read f xs i d a b c lt front line =
    line_appended f xs i (get_or xs i d) a b c lt (get_or_default xs i d (get_or xs i d) lt) front line

pub map_err : {T E : Type 0} {P Q : Type 0} (r : Result T E) → (P → Q) → OnErr r P → OnErr r Q
map_err (Ok x) f p = tt
map_err (Err e) f p = f p
