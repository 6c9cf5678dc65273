-- The reading of bytes and of a text as a function.
use Rattle.std.proofs.Common.{◌≡◌, ℕ, ◌<◌, List, length, slice_index, Bool, true, false, not, refl, sym, ap, ◌∙◌, arith}
use Rattle.std.specs.Prelude.{◌≢◌, ◌==◌, ◌&&◌, Result, Ok, Err, if◌then◌else◌, MatchResult}
use Rattle.std.proofs.lemmas.Bool.Decides.{nat_tests}
use Rattle.hex.specs.Hex.{decode_of}
use Rattle.hex.specs.declared.error.FromHexError.{FromHexError}
use Rattle.hex.proofs.HexLemmas.{decode_of-ok}
use Rattle.umid.specs.declared.fault.UmidFault.{UmidFault}
use Rattle.umid.specs.declared.fault.UmidFault.TheVariants.{Length, Extended, NotUmid, HexText}
use Rattle.umid.specs.Fault.{IsReadingOf, has_fixed_bytes, reading_of_bytes, reading_of_decoded, reading_of_text}
use Rattle.umid.specs.BasicUmid.{UmidParts, IsBasicUmid, IsExtended, is_umid, basic_umid, byte_at, parts_in}
use Rattle.umid.proofs.UmidLemmas.{HasFixedBytes, IsBasicUmid-from_fixed, IsBasicUmid-from_is_umid, is_umid-parts_in}
use Rattle.umid.proofs.UmidLemmas.{parts_in-IsBasicUmid}

fixed-from_test : (bs : List ℕ) → length bs ≡ 32 → has_fixed_bytes bs ≡ true → HasFixedBytes bs
fixed-from_test bs count h = record {
  count = count;
  first = grind (arith, nat_tests, h);
  second = grind (arith, nat_tests, h);
  third = grind (arith, nat_tests, h);
  fourth = grind (arith, nat_tests, h);
  fifth = grind (arith, nat_tests, h);
  sixth = grind (arith, nat_tests, h);
  seventh = grind (arith, nat_tests, h);
  ninth = grind (arith, nat_tests, h);
  tenth = grind (arith, nat_tests, h);
  thirteenth = grind (arith, nat_tests, h);
}

is_32 : (n : ℕ) → n ≡ 32 → not (n == 32) ≡ false
is_32 n e = grind (arith, nat_tests, e)

not_64 : (n b : ℕ) → n ≡ 32 → (n == 64 && b == 0x33) ≡ false
not_64 n b e = grind (arith, nat_tests, e)

-- of bytes that have no other length than a basic UMID has
of_32 : (bs : List ℕ) (b : Bool) → length bs ≡ 32 → has_fixed_bytes bs ≡ b
    → reading_of_bytes bs ≡ (if b then Ok (parts_in bs) else Err NotUmid)
unfolding reading_of_bytes
of_32 bs b count e = rw (not_64 (length bs) (byte_at bs 13) count, is_32 (length bs) count, e) refl

pub of_other_length : (bs : List ℕ) → (IsExtended bs → ⊥) → length bs ≢ 32 → Err Length ≡ reading_of_bytes bs
unfolding reading_of_bytes
of_other_length bs ordinary other =
    let not_long : (length bs == 64 && byte_at bs 13 == 0x33) ≡ false =
    by (length bs == 64 && byte_at bs 13 == 0x33) refl in
    let not_short : not (length bs == 32) ≡ true = grind (arith, nat_tests, other) in
    rw (not_long, not_short) refl
  where
    by : (b : Bool) → (length bs == 64 && byte_at bs 13 == 0x33) ≡ b → b ≡ false
    by false e = refl
    by true e = absurd (ordinary (record { count = grind (arith, nat_tests, e); follow = grind (arith, nat_tests, e) }))

-- the UMID of some parts is read as these
read_as : (bs : List ℕ) (parts : UmidParts) → IsBasicUmid bs parts → reading_of_bytes bs ≡ Ok parts
read_as bs parts h =
    let count : length bs ≡ 32 = ap length h.spelled ∙ omega (arith, h.material_number) in
    let fixed : has_fixed_bytes bs ≡ true = rw h.spelled refl in
    of_32 bs true count fixed ∙ ap Ok (parts_in-IsBasicUmid bs parts h)

-- parts of 32 bytes are read back from them
pub read_back : (parts : UmidParts) → is_umid parts ≡ true → reading_of_bytes (basic_umid parts) ≡ Ok parts
read_back parts h = read_as (basic_umid parts) parts (IsBasicUmid-from_is_umid parts h)

-- the relation allows no other reading
pub reading_is : (bs : List ℕ) (read : Result UmidParts UmidFault) → ((i : ℕ) → slice_index bs i < 256)
    → IsReadingOf bs read → read ≡ reading_of_bytes bs
unfolding reading_of_bytes
reading_is bs (Ok parts) bytes h = sym (read_as bs parts h)
reading_is bs (Err Extended) bytes h =
    let long : (length bs == 64 && byte_at bs 13 == 0x33) ≡ true = let c = h.count in let f = h.follow in
    grind (arith, nat_tests, c, f) in
    rw long refl
reading_is bs (Err Length) bytes h = of_other_length bs h.0 h.1
reading_is bs (Err NotUmid) bytes h = by (has_fixed_bytes bs) refl
  where
    by : (b : Bool) → has_fixed_bytes bs ≡ b → Err NotUmid ≡ reading_of_bytes bs
    by false e = sym (of_32 bs false h.0 e)
    by true e = absurd (h.1 (parts_in bs) (IsBasicUmid-from_fixed bs (fixed-from_test bs h.0 e) bytes))
reading_is bs (Err HexText) bytes h = absurd h

-- of a text
pub text_reading_is : (text : List ℕ) (read : Result UmidParts UmidFault)
    → MatchResult (decode_of text) (λ bytes. IsReadingOf bytes read) (λ _. read ≡ Err HexText)
    → read ≡ reading_of_text text
unfolding reading_of_text
text_reading_is text read h = by (decode_of text) refl h
  where
    by : (decoded : Result (List ℕ) FromHexError) → decode_of text ≡ decoded
        → MatchResult decoded (λ bytes. IsReadingOf bytes read) (λ _. read ≡ Err HexText)
        → read ≡ reading_of_decoded decoded
    by (Ok bytes) e h = reading_is bytes read (decode_of-ok text bytes e).3 h
    by (Err fault) e h = h

-- what bytes are read as are the parts of 32 bytes
pub bytes-is_umid : (bs : List ℕ) (parts : UmidParts) → ((i : ℕ) → slice_index bs i < 256)
    → reading_of_bytes bs ≡ Ok parts → is_umid parts ≡ true
unfolding reading_of_bytes
bytes-is_umid bs parts bytes read =
    by (length bs == 64 && byte_at bs 13 == 0x33) (length bs == 32) (has_fixed_bytes bs) refl refl read
  where
    by : (long short fixed : Bool) → (length bs == 32) ≡ short → has_fixed_bytes bs ≡ fixed
        → (if long then Err Extended else if not short then Err Length else if fixed then Ok (parts_in bs)
        else Err NotUmid) ≡ Ok parts → is_umid parts ≡ true
    by true short fixed is_short is_fixed h = absurd (cc)
    by false false fixed is_short is_fixed h = absurd (cc)
    by false true false is_short is_fixed h = absurd (cc)
    by false true true is_short is_fixed h =
        let count : length bs ≡ 32 = grind (arith, nat_tests, is_short) in
        let same : parts_in bs ≡ parts = cc in
        rw (← same) (is_umid-parts_in bs (IsBasicUmid-from_fixed bs (fixed-from_test bs count is_fixed) bytes) bytes)

-- and what a text is read as
pub text-is_umid : (text : List ℕ) (parts : UmidParts) → reading_of_text text ≡ Ok parts → is_umid parts ≡ true
unfolding reading_of_text
text-is_umid text parts read = by (decode_of text) refl read
  where
    by : (decoded : Result (List ℕ) FromHexError) → decode_of text ≡ decoded → reading_of_decoded decoded ≡ Ok parts
        → is_umid parts ≡ true
    by (Ok bytes) e h = bytes-is_umid bytes parts (decode_of-ok text bytes e).3 h
    by (Err fault) e h = absurd (cc)
