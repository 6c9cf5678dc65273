-- Labels that are written one behind another.
use Rattle.std.proofs.Common.{◌≡◌, ℕ, ◌+◌, ◌*◌, ◌<◌, List, [], ◌∷◌, ◌++◌, length, get_or, take, drop, refl, sym, ap}
use Rattle.std.proofs.Common.{◌∙◌, arith, append_assoc}
use Rattle.std.specs.List.{flat_map}
use Rattle.std.proofs.Math.Seq.{take-append_seam}
use Rattle.std.proofs.lemmas.Slice.{drop-append-drop}
use Rattle.std.proofs.lemmas.List.{take_more, length-take-le}
use Rattle.std.proofs.lemmas.Grind.{common_steps, flat_map-append}

texts_length : (f : ℕ → List ℕ) (ns : List ℕ) → ((n : ℕ) → length (f n) ≡ 11) → length (flat_map f ns) ≡ 11 * length ns
texts_length f [] eleven = refl
texts_length f (n ∷ ns) eleven = let so = texts_length f ns eleven in grind (arith, common_steps, so, eleven n)

-- behind some text one more
behind : (text more room : List ℕ) (n k : ℕ) → n ≡ length text
    → take n (text ++ drop n room) ++ (more ++ drop (n + k) (text ++ drop n room)) ≡ (text ++ more) ++ drop (n + k) room
behind text more room n k e =
    let front : take n (text ++ drop n room) ≡ text = rw e (take-append_seam text (drop (length text) room)) in
    let back : drop (n + k) (text ++ drop n room) ≡ drop (n + k) room =
    drop-append-drop n room text (n + k) (omega arith) (sym e) in
    rw (front, back, append_assoc) refl

one_more : (f : ℕ → List ℕ) (ns : List ℕ) (i : ℕ) → i < length ns
    → flat_map f (take (i + 1) ns) ≡ flat_map f (take i ns) ++ f (get_or ns i 0)
one_more f ns i low = rw (take_more ns i 0 low, flat_map-append) (grind (arith, common_steps))

pub texts_next : (f : ℕ → List ℕ) (ns room : List ℕ) (i : ℕ) → ((n : ℕ) → length (f n) ≡ 11) → i < length ns
    → take (11 * i) (flat_map f (take i ns) ++ drop (11 * length (take i ns)) room)
    ++ (f (get_or ns i 0) ++ drop (11 * i + 11) (flat_map f (take i ns) ++ drop (11 * length (take i ns)) room))
    ≡ flat_map f (take (i + 1) ns) ++ drop (11 * length (take (i + 1) ns)) room
texts_next f ns room i eleven low =
    let count : length (take i ns) ≡ i = length-take-le i ns (omega arith) in
    let next : length (take (i + 1) ns) ≡ i + 1 = length-take-le (i + 1) ns (omega arith) in
    let len : 11 * i ≡ length (flat_map f (take i ns)) =
    sym (texts_length f (take i ns) eleven ∙ ap (λ n. 11 * n) count) in
    let twelve : 11 * (i + 1) ≡ 11 * i + 11 = omega arith in
    rw (count, next, twelve, one_more f ns i low)
    (behind (flat_map f (take i ns)) (f (get_or ns i 0)) room (11 * i) 11 len)
