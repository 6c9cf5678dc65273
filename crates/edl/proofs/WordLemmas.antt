-- A word that a line begins with.
use Rattle.std.proofs.Common.{◌≡◌, ℕ, Bool, true, false, List, Some, None, refl, sym}
use Rattle.std.specs.Str.{IsUtf8, is_utf8}
use Rattle.std.proofs.lemmas.Str.{is_utf8-from_IsUtf8, IsUtf8-from_is_utf8}
use Rattle.std.specs.Str.Pattern.{FindsTextPrefix, StripsPrefix}
use Rattle.std.proofs.lemmas.Str.Pattern.{starts_text}
use Rattle.edl.specs.Text.{after_blanks}
use Rattle.edl.specs.Meaning.{rest_after}

-- the line doesn't begin with the word
pub rest_after-none : (word line : List ℕ) → FindsTextPrefix word line None → rest_after word line ≡ None
rest_after-none word line h = rw (sym (starts_text false word line h)) refl

-- the line begins with the word
pub rest_after-some : (word line rest : List ℕ) → StripsPrefix (FindsTextPrefix word) line rest
    → rest_after word line ≡ Some (after_blanks rest)
rest_after-some word line rest h =
    let found = h.1 in
    rw (sym (starts_text true word line (h.0, found, rw found.0 found.2)), h.2, found.0) refl

-- a line that is text, and one that isn't
pub is_utf8-text : (line : List ℕ) → IsUtf8 line → is_utf8 line ≡ true
is_utf8-text line h = is_utf8-from_IsUtf8 line h

pub is_utf8-other : (line : List ℕ) → (IsUtf8 line → ⊥) → is_utf8 line ≡ false
is_utf8-other line h = at (is_utf8 line) refl
  where
    at : (v : Bool) → is_utf8 line ≡ v → v ≡ false
    at true e = absurd (h (IsUtf8-from_is_utf8 line e))
    at false e = refl

pub ruleset texts = (is_utf8-text, is_utf8-other)
