-- Bytes that are written one part behind another.
use Rattle.std.proofs.Common.{◌≡◌, ℕ, ◌+◌, ◌-◌, List, [], ◌++◌, length, take, drop, ap, sym, subst, ◌∙◌, arith}
use Rattle.std.specs.Prelude.{Option, Some, None, Result, Ok, Err, OnErr, min}
use Rattle.std.proofs.lemmas.List.{append_assoc, append-nil, length-drop, take_all, take_min, take-append-le}
use Rattle.std.proofs.Math.Seq.{take-add, take-append-add}
use Rattle.std.specs.Io.KnownBytes.{Appends}
use Rattle.report_texts.specs.Output.{AppendsPart}

-- a part, and then the beginning of what is left
pub parts_appended : (old mid new : Option (List ℕ)) (bytes : List ℕ) (i n : ℕ) → Appends old mid (take i bytes)
    → Appends mid new (take n (drop i bytes))
    → Appends old new (take (i + n) bytes)
parts_appended None mid new bytes i n h k = tt
parts_appended (Some xs) None new bytes i n h k = absurd h
parts_appended (Some xs) (Some ys) None bytes i n h k = absurd k
parts_appended (Some xs) (Some ys) (Some zs) bytes i n h k =
    k ∙ ap (λ (l : List ℕ). l ++ take n (drop i bytes)) h ∙ append_assoc xs (take i bytes) (take n (drop i bytes))
    ∙ ap (λ (l : List ℕ). xs ++ l) (sym (take-add i n bytes))

-- the same, where what is left is named as a slice
pub rest_appended : (old mid new : Option (List ℕ)) (bytes : List ℕ) (i n : ℕ) → Appends old mid (take i bytes)
    → Appends mid new (take n (take (length bytes - i) (drop i bytes))) → Appends old new (take (i + n) bytes)
rest_appended old mid new bytes i n h k =
    let whole : take (length bytes - i) (drop i bytes) ≡ drop i bytes =
    take_all (length bytes - i) (drop i bytes) (omega (arith, length-drop i bytes)) in
    let P : List ℕ → Type 0 = λ l. Appends mid new (take n l) in
    parts_appended old mid new bytes i n h (subst P whole k)

-- a front, and then a part behind it
pub whole_behind : (a b c : Option (List ℕ)) (front part : List ℕ) → Appends a b front → Appends b c part
    → Appends a c (front ++ part)
whole_behind None b c front part h k = tt
whole_behind (Some xs) None c front part h k = absurd h
whole_behind (Some xs) (Some ys) None front part h k = absurd k
whole_behind (Some xs) (Some ys) (Some zs) front part h k =
    k ∙ ap (λ (l : List ℕ). l ++ part) h ∙ append_assoc xs front part

-- a front, and then a beginning of what is behind it
pub part_behind : (a b c : Option (List ℕ)) (front part rest : List ℕ) → Appends a b front → AppendsPart b c part
    → AppendsPart a c (front ++ (part ++ rest))
part_behind None b c front part rest h k = (0, tt)
part_behind (Some xs) None c front part rest h k = absurd h
part_behind (Some xs) (Some ys) None front part rest h (n, k) = absurd k
part_behind (Some xs) (Some ys) (Some zs) front part rest h (n, k) =
    let m = min n (length part) in
    let same : take n part ≡ take m (part ++ rest) =
    sym (take_min n part) ∙ sym (take-append-le m part rest (omega arith)) in (
      length front + m,
      k ∙ ap (λ (l : List ℕ). l ++ take n part) h ∙ append_assoc xs front (take n part)
          ∙ ap (λ (l : List ℕ). xs ++ l)
          (ap (λ (l : List ℕ). front ++ l) same ∙ sym (take-append-add front (part ++ rest) m)),
    )

-- nothing was written yet
pub nothing_yet : (a : Option (List ℕ)) → Appends a a []
nothing_yet None = tt
nothing_yet (Some xs) = sym (append-nil xs)

-- what holds at all holds at an error
pub on_err : {T E P : Type 0} (r : Result T E) → P → OnErr r P
on_err (Ok x) p = tt
on_err (Err e) p = p
