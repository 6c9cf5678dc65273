-- The bytes of a basic UMID and its parts.
use Rattle.std.proofs.Common.{◌≡◌, ℕ, suc, ◌+◌, ◌*◌, ◌/◌, ◌%◌, ◌^◌, ◌<◌, List, [], ◌∷◌, length, drop, slice_index}
use Rattle.std.proofs.Common.{slice_set, true, refl, ap, ◌∙◌, arith}
use Rattle.std.specs.Prelude.{◌≢◌, nat_lt, Result, Ok, Err, MatchResult}
use Rattle.std.specs.List.{AllPass, list_all}
use Rattle.std.proofs.lemmas.Bool.Decides.{nat_tests}
use Rattle.std.proofs.lemmas.List.{get_or-drop}
use Rattle.hex.specs.Hex.{decode_of, is_hex_digit}
use Rattle.hex.specs.declared.error.FromHexError.{FromHexError}
use Rattle.hex.proofs.HexLemmas.{decode_of-digits, decode_of-ok}
use Rattle.umid.specs.declared.fault.UmidFault.{UmidFault}
use Rattle.umid.specs.declared.fault.UmidFault.TheVariants.{Length, HexText}
use Rattle.umid.specs.Fault.{IsReadingOf}
use Rattle.umid.specs.BasicUmid.{UmidParts, IsBasicUmid, is_umid, basic_umid, byte_at, parts_in}

-- the bytes that are the same in each basic UMID
pub record HasFixedBytes (bs : List ℕ) : Type 0 where
  pub count : length bs ≡ 32
  pub first : byte_at bs 1 ≡ 0x06
  pub second : byte_at bs 2 ≡ 0x0a
  pub third : byte_at bs 3 ≡ 0x2b
  pub fourth : byte_at bs 4 ≡ 0x34
  pub fifth : byte_at bs 5 ≡ 0x01
  pub sixth : byte_at bs 6 ≡ 0x01
  pub seventh : byte_at bs 7 ≡ 0x01
  pub ninth : byte_at bs 9 ≡ 0x01
  pub tenth : byte_at bs 10 ≡ 0x01
  pub thirteenth : byte_at bs 13 ≡ 0x13

-- bytes that pass the tests are the UMID of the parts in them
pub IsBasicUmid-from_fixed : (bs : List ℕ) → HasFixedBytes bs → ((i : ℕ) → slice_index bs i < 256)
    → IsBasicUmid bs (parts_in bs)
IsBasicUmid-from_fixed (a ∷ b ∷ c ∷ d ∷ e ∷ f ∷ g ∷ h ∷ i ∷ j ∷ k ∷ l ∷ m ∷ n ∷ o ∷ p ∷ rest) fixed bytes =
    let b8 = bytes 7 in
    let b11 = bytes 10 in
    let b12 = bytes 11 in
    let b14 : n < 256 = bytes 13 in
    let b15 : o < 256 = bytes 14 in
    let b16 : p < 256 = bytes 15 in
    let en : (65536 * n + 256 * o + p) / 65536 ≡ n = omega arith in
    let eo : (65536 * n + 256 * o + p) / 256 % 256 ≡ o = omega arith in
    let ep : (65536 * n + 256 * o + p) % 256 ≡ p = omega arith in
    record {
      spelled = cc;
      version = b8;
      material_type = b11;
      creation_methods = b12;
      instance_number = omega arith;
      material_number = omega (arith, fixed.count);
    }
IsBasicUmid-from_fixed _ fixed bytes = absurd (omega (arith, fixed.count))

-- the bytes of some parts have these parts in them
pub parts_in-basic_umid : (parts : UmidParts) → parts_in (basic_umid parts) ≡ parts
parts_in-basic_umid parts =
    let n = parts.instance_number in
    let e : 65536 * (n / 65536) + 256 * (n / 256 % 256) + n % 256 ≡ n = omega arith in
    ap (λ (m : ℕ). record parts { instance_number = m }) e

-- bytes have in them the parts that they are the UMID of
pub parts_in-IsBasicUmid : (bs : List ℕ) (parts : UmidParts) → IsBasicUmid bs parts → parts_in bs ≡ parts
parts_in-IsBasicUmid bs parts h = ap parts_in h.spelled ∙ parts_in-basic_umid parts

bytes_pass : (bs : List ℕ) → ((i : ℕ) → slice_index bs i < 256) → list_all (λ b. nat_lt b 256) bs ≡ true
bytes_pass [] small = refl
bytes_pass (b ∷ bs) small =
    let first : b < 256 = small 0 in
    let rest = bytes_pass bs (λ i. small (suc i)) in
    grind (arith, nat_tests, first, rest)

-- bytes that are a UMID have the parts of 32 bytes in them
pub is_umid-parts_in : (bs : List ℕ) → IsBasicUmid bs (parts_in bs) → ((i : ℕ) → slice_index bs i < 256)
    → is_umid (parts_in bs) ≡ true
unfolding is_umid
is_umid-parts_in bs h bytes =
    let version = h.version in
    let material_type = h.material_type in
    let creation_methods = h.creation_methods in
    let instance = h.instance_number in
    let count = h.material_number in
    let material = bytes_pass (drop 16 bs) (λ i. rw (get_or-drop 16 bs i 0) (bytes (16 + i))) in
    grind (arith, nat_tests, version, material_type, creation_methods, instance, count, material)

-- such parts have a UMID
pub IsBasicUmid-from_is_umid : (parts : UmidParts) → is_umid parts ≡ true → IsBasicUmid (basic_umid parts) parts
unfolding is_umid
IsBasicUmid-from_is_umid parts h = record {
  spelled = refl;
  version = grind (arith, nat_tests, h);
  material_type = grind (arith, nat_tests, h);
  creation_methods = grind (arith, nat_tests, h);
  instance_number = grind (arith, nat_tests, h);
  material_number = grind (arith, nat_tests, h);
}

-- the bytes with another instance number
pub IsBasicUmid-with_instance : (bs : List ℕ) (parts : UmidParts) (n high middle low : ℕ) → IsBasicUmid bs parts
    → n < 2 ^ 24
    → high ≡ n / 65536 → middle ≡ n / 256 % 256 → low ≡ n % 256
    → IsBasicUmid (slice_set (slice_set (slice_set bs 13 high) 14 middle) 15 low) (record parts { instance_number = n })
IsBasicUmid-with_instance bs parts n high middle low h fits eh em el = record {
  spelled = rw (h.spelled, eh, em, el) refl;
  version = h.version;
  material_type = h.material_type;
  creation_methods = h.creation_methods;
  instance_number = fits;
  material_number = h.material_number;
}

-- an even number of digits decodes to half as many bytes, and is no UMID where they are neither 32 nor 64
pub IsReadingOf-other_count : (text : List ℕ) (result : Result UmidParts UmidFault) → length text % 2 ≡ 0
    → AllPass is_hex_digit text
    → length text ≢ 64 → length text ≢ 128 → result ≡ Err Length
    → MatchResult (decode_of text) (λ bytes. IsReadingOf bytes result) (λ _. result ≡ Err HexText)
IsReadingOf-other_count text result even digits short long e =
    let read = decode_of-digits text even digits in
    let count = (decode_of-ok text read.0 read.1).2 in
    rw (read.1, e) (λ extended. absurd (omega (arith, extended.count, count)), λ h. absurd (omega (arith, count)))

-- what is no even number of digits doesn't decode
pub IsReadingOf-no_digits : (text : List ℕ) (result : Result UmidParts UmidFault)
    → ((length text % 2 ≡ 0) × AllPass is_hex_digit text → ⊥) → result ≡ Err HexText
    → MatchResult (decode_of text) (λ bytes. IsReadingOf bytes result) (λ _. result ≡ Err HexText)
IsReadingOf-no_digits text result none e = no_digits (decode_of text) refl
  where
    no_digits : (decoded : Result (List ℕ) FromHexError) → decode_of text ≡ decoded
        → MatchResult decoded (λ bytes. IsReadingOf bytes result) (λ _. result ≡ Err HexText)
    no_digits (Ok bytes) h = let ok = decode_of-ok text bytes h in absurd (none (ok.0, ok.1))
    no_digits (Err fault) h = e
