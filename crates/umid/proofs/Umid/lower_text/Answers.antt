-- `Umid::lower_text`: the digits of the bytes, in lower case.
use Rattle.std.proofs.Common.{◌≡◌, ◌∙◌, List, [], ◌∷◌, ℕ, Bool, true, ◌&&◌, nat_lt, Result, Ok, Err, ap, refl, ltb-true}
use Rattle.std.specs.Prelude.{MatchResult, IsOk}
use Rattle.std.specs.Str.{IsAscii, IsUtf8}
use Rattle.std.proofs.lemmas.Bool.{and_parts}
use Rattle.std.proofs.lemmas.Str.{IsUtf8-from_ascii}
use Rattle.std.proofs.lemmas.Str.Ascii.{IsAscii-cons, IsAscii-nil}
use Rattle.hex.specs.Hex.{encode_lower, lower_digits}
use Rattle.hex.proofs.HexLemmas.{IsAscii-encode_with}
use Rattle.umid.specs.BasicUmid.{basic_umid}
use Rattle.umid.proofs.Umid.lower_text.Goals as goal

abbrev all_ascii : List ℕ → Bool
all_ascii [] = true
all_ascii (b ∷ bs) = nat_lt b 128 && all_ascii bs

-- a test of each byte, which computes
IsAscii-from_test : (bs : List ℕ) → all_ascii bs ≡ true → IsAscii bs
IsAscii-from_test [] h = IsAscii-nil
IsAscii-from_test (b ∷ bs) h =
    let parts = and_parts (nat_lt b 128) (all_ascii bs) h in
    IsAscii-cons b bs (ltb-true b 128 parts.0) (IsAscii-from_test bs parts.1)

-- what fails for bytes that are no text alone is Ok where they are
ok_of_text : {T E : Type 0} (r : Result T E) (bytes text : List ℕ) (P : T → Type 0) (Q : E → Type 0)
    → MatchResult r P (λ e. (IsUtf8 bytes → ⊥) × Q e) → bytes ≡ text → IsUtf8 text → IsOk r
ok_of_text (Ok x) bytes text P Q h e utf8 = refl
ok_of_text (Err fault) bytes text P Q h e utf8 = absurd (h.0 (rw e utf8))

pub unwrap-requires-2 : goal.unwrap-requires-2
unwrap-requires-2 c =
    let ascii : IsAscii lower_digits = IsAscii-from_test lower_digits refl in
    let text = IsUtf8-from_ascii _ (IsAscii-encode_with lower_digits c.self.inside.bytes ascii) in
    let written : c.encode_to_slice.new.output ≡ encode_lower c.self.inside.bytes =
    rw c.unwrap.ensures at c.encode_to_slice.ensures.written in
    ok_of_text c.from_utf8.result c.encode_to_slice.new.output (encode_lower c.self.inside.bytes) _ _
    c.from_utf8.ensures.cases written text

pub returns : goal.returns
returns c =
    let written : c.encode_to_slice.new.output ≡ encode_lower c.self.inside.bytes =
    rw c.unwrap.ensures at c.encode_to_slice.ensures.written in
    let read = rw c.unwrap-2.ensures at c.from_utf8.ensures.cases in
    let view = ap (λ parts. encode_lower (basic_umid parts)) c.self.view_is in
    read.0 ∙ written ∙ ap encode_lower c.self.invariant.spelled ∙ view
