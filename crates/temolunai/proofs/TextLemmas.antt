-- Texts keep their places where bytes are added behind.
use Rattle.std.proofs.Common.{◌≡◌, ℕ, zero, suc, length-drop, ◌+◌, ◌-◌, ◌<◌, List, [], ◌∷◌, ◌++◌, length, get_or, take}
use Rattle.std.proofs.Common.{drop, map, refl, arith}
use Rattle.std.specs.Prelude.{All}
use Rattle.std.proofs.Math.Seq.{drop-append_seam, take-length}
use Rattle.std.specs.Borrow.{Bor}
use Rattle.std.proofs.lemmas.List.Elements.{All-append}
use Rattle.std.proofs.lemmas.List.{take_all, take_more, drop-append-le, map-append, take-map, drop-map}
use Rattle.edl.specs.Texts.{texts_of}
use Rattle.std.proofs.lemmas.Grind.{common_steps}
use Rattle.temolunai.specs.declared.texts.Place.{Place}
use Rattle.temolunai.specs.Texts.{text_at, texts_at, IsWithin}

text_kept : (bytes more : List ℕ) (place : Place) → IsWithin (length bytes) place
    → text_at (bytes ++ more) place ≡ text_at bytes place
text_kept bytes more place within =
    grind (arith, common_steps, drop-append-le place.at bytes more (omega arith))

texts_kept : (bytes more : List ℕ) (places : List Place) → All (IsWithin (length bytes)) places
    → texts_at (bytes ++ more) places ≡ texts_at bytes places
texts_kept bytes more [] within = refl
texts_kept bytes more (place ∷ places) within =
    let rest =
    texts_kept bytes more places (λ (k : ℕ) (d : Place) (low : k < length places). within (suc k) d (omega arith))
    in
    rw (text_kept bytes more place (within 0 place (omega arith)), rest) refl

-- the place of a text behind some bytes
abbrev pub place_behind : List ℕ → List ℕ → Place
place_behind bytes text = record { at = length bytes; length = length text }

new_text : (bytes text : List ℕ) → text_at (bytes ++ text) (place_behind bytes text) ≡ text
new_text bytes text = rw (drop-append_seam bytes text, take-length text) refl

pub texts_pushed : (bytes text : List ℕ) (places : List Place) → All (IsWithin (length bytes)) places
    → texts_at (bytes ++ text) (places ++ (place_behind bytes text ∷ [])) ≡ texts_at bytes places ++ (text ∷ [])
texts_pushed bytes text places within =
    rw (map-append, texts_kept bytes text places within, new_text bytes text) refl

pub shown_part : (n count : ℕ) (texts : List (Bor (List ℕ)))
    → texts_of (take count (drop n texts)) ≡ take count (drop n (texts_of texts))
shown_part n count texts = simp (take-map, drop-map)

-- one more of what is mapped alike
pub said_next : {A B C : Type 0} (f : A → C) (g : B → C) (xs : List A) (ys new : List B) (i : ℕ) (y : B) (x : A)
    → i < length xs
    → map g ys ≡ map f (take i xs) → g y ≡ f (get_or xs i x) → new ≡ ys ++ (y ∷ [])
    → map g new ≡ map f (take (i + 1) xs)
said_next f g xs ys new i y x low so one is = rw (is, take_more xs i x low, map-append, map-append, so, one) refl

pub all_next : {A : Type 0} (P : A → Type 0) (xs new : List A) (x : A) → All P xs → P x → new ≡ xs ++ (x ∷ [])
    → All P new
all_next P xs new x all one is = rw is (All-append P xs (x ∷ []) all alone)
  where
    alone : All P (x ∷ [])
    alone zero d low = one
    alone (suc k) d low = absurd (omega arith)

pub notes_taken : (n count : ℕ) (texts : List (Bor (List ℕ)))
    → texts_of (take count (take (length texts - n) (drop n texts))) ≡ take count (drop n (texts_of texts))
notes_taken n count texts =
    rw (take_all (length texts - n) (drop n texts) (omega (arith, length-drop n texts))) (shown_part n count texts)
