-- Hexadecimal digits are UTF-8, so bytes that aren't spell nothing.
use Rattle.std.proofs.Common.{◌≡◌, ℕ, ◌<◌, List, length, slice_index, true, refl, ap, arith, inl, inr}
use Rattle.std.specs.Prelude.{Result, Ok, Err}
use Rattle.std.specs.List.{AllPass}
use Rattle.std.specs.Str.{IsUtf8, IsAscii}
use Rattle.std.proofs.lemmas.Bool.Decides.{nat_tests}
use Rattle.std.proofs.lemmas.Bool.{cases_lt}
use Rattle.std.proofs.lemmas.List.{get_or_past}
use Rattle.std.proofs.lemmas.Str.{IsUtf8-from_ascii}
use Rattle.hex.specs.Hex.{decode_of, is_hex_digit}
use Rattle.hex.specs.declared.error.FromHexError.{FromHexError}
use Rattle.hex.proofs.HexLemmas.{decode_of-ok}
use Rattle.umid.specs.Fault.{reading_of_text, reading_of_decoded}
use Rattle.umid.specs.declared.fault.UmidFault.TheVariants.{HexText}

small : (c : ℕ) → is_hex_digit c ≡ true → c < 128
small c h = grind (arith, nat_tests, h)

ascii : (text : List ℕ) → AllPass is_hex_digit text → IsAscii text
ascii text h i = elim (cases_lt i (length text)) [
  | inl low ↦ small (slice_index text i) (h i 0 low)
  | inr past ↦ rw (get_or_past text i 0 past) (omega arith)
]

pub digits_are_text : (text : List ℕ) → ¬ (IsUtf8 text) → reading_of_text text ≡ Err HexText
unfolding reading_of_text
digits_are_text text not_text = by (decode_of text) refl
  where
    by : (r : Result (List ℕ) FromHexError) → decode_of text ≡ r → reading_of_text text ≡ Err HexText
    by (Ok bytes) e = absurd (not_text (IsUtf8-from_ascii text (ascii text (decode_of-ok text bytes e).1)))
    by (Err fault) e = ap reading_of_decoded e
