-- The texts of sources and kinds read as these.
use Rattle.std.proofs.Common.{◌≡◌, ℕ, zero, suc, ◌+◌, ◌*◌, ◌-◌, ◌/◌, ◌%◌, ◌^◌, ◌<◌, ◌≤◌, Bool, true, false, List, []}
use Rattle.std.proofs.Common.{◌∷◌, ◌++◌, length, length-append, drop, take, get_or, length-drop}
use Rattle.std.proofs.Common.{length-take-le, take-append-drop, Option, Some, None, refl, sym, ap, ap₂, ◌∙◌, subst}
use Rattle.std.proofs.Common.{arith, lt-ltb, le-leb, true≢false}
use Rattle.std.specs.Prelude.{◌==◌, ◌&&◌, ◌||◌, nat_lt, nat_le, replicate, decimal, codes, bytes_eq, slice_index}
use Rattle.std.specs.Prelude.{if◌then◌else◌}
use Rattle.std.specs.List.{list_all}
use Rattle.std.specs.Char.{is_ascii_digit, digit_value}
use Rattle.std.specs.Str.Parse.{AllDigits, digits_value, digits_value_after}
use Rattle.std.proofs.lemmas.Fmt.{decimal_is_IsNumeral, length-decimal-le, decimal-digits_value}
use Rattle.std.proofs.lemmas.Str.Parse.{digit_from_value, numerals_by_value, tells_digits}
use Rattle.std.proofs.lemmas.Str.{digit_value_digit}
use Rattle.std.proofs.lemmas.Int.Digits.{digits_value-lt}
use Rattle.std.proofs.lemmas.Slice.Eq.{bytes_eq-Decides}
use Rattle.std.proofs.lemmas.Nat.{div-mul-add}
use Rattle.std.proofs.Math.Nat.{mul-add-mod_self_right, mod-eq_of_lt, pow-le-pow_right}
use Rattle.std.proofs.lemmas.List.{length-replicate}
use Rattle.std.proofs.lemmas.Bool.Decides.{nat_tests}
use Rattle.std.proofs.lemmas.List.Folds.{list_all-append}
use Rattle.timecode.specs.Decimal.{decimal_number, in_digits, is_decimal}
use Rattle.grant_core.specs.ClipRef.{seven_digits}
use Rattle.playlist_core.specs.declared.source.Source.{Source}
use Rattle.playlist_core.specs.declared.source.Source.TheVariants.{Black, Bars, Own, Lent}
use Rattle.playlist_core.specs.declared.item.EditKind.{EditKind}
use Rattle.playlist_core.specs.declared.item.EditKind.TheVariants.{Cut, Dissolve, Wipe}
use Rattle.playlist_core.specs.Source.{source_reel, source_of_reel, own_source, lent_source, numbered_source, is_source}
use Rattle.playlist_core.specs.Item.{kind_text, kind_of, is_kind, wipe}

first : (a b : Bool) → (a && b) ≡ true → a ≡ true
first true b both = refl
first false b both = both

second : (a b : Bool) → (a && b) ≡ true → b ≡ true
second true b both = both
second false b both = absurd (true≢false (sym both))

zeros_first : (k : ℕ) (ds : List ℕ) → digits_value 10 (replicate k 48 ++ ds) ≡ digits_value 10 ds
zeros_first zero ds = refl
zeros_first (suc k) ds = zeros_first k ds

joined_digits : (n : ℕ) (xs ys : List ℕ)
    → digits_value_after 10 n (xs ++ ys) ≡ digits_value_after 10 (digits_value_after 10 n xs) ys
joined_digits n [] ys = refl
joined_digits n (x ∷ xs) ys = joined_digits (n * 10 + digit_value x) xs ys

-- four digits behind a number
four_behind : (m : ℕ) (ds : List ℕ) → length ds ≡ 4 → digits_value_after 10 m ds ≡ m * 10000 + digits_value 10 ds
four_behind m [] size = absurd (omega arith)
four_behind m (a ∷ []) size = absurd (omega arith)
four_behind m (a ∷ b ∷ []) size = absurd (omega arith)
four_behind m (a ∷ b ∷ c ∷ []) size = absurd (omega arith)
four_behind m (a ∷ b ∷ c ∷ d ∷ []) size = four m (digit_value a) (digit_value b) (digit_value c) (digit_value d)
  where
    four : (m a b c d : ℕ)
        → (((m * 10 + a) * 10 + b) * 10 + c) * 10 + d ≡ m * 10000 + ((((0 * 10 + a) * 10 + b) * 10 + c) * 10 + d)
    four m a b c d = omega arith
four_behind m (a ∷ b ∷ c ∷ d ∷ e ∷ ds) size = absurd (omega arith)

zeros_length : (k : ℕ) → length {A = ℕ} (replicate k 48) ≡ k
zeros_length k = length-replicate k 48

zeros_digits : (k : ℕ) → list_all is_ascii_digit (replicate k 48) ≡ true
zeros_digits zero = refl
zeros_digits (suc k) = zeros_digits k

ascii : (c : ℕ) → digit_value c < 10 → is_ascii_digit c ≡ true
ascii c small = let range = digit_from_value c small in grind (arith, nat_tests, range)

all_ascii : (ds : List ℕ) → AllDigits 10 ds → list_all is_ascii_digit ds ≡ true
all_ascii [] h = refl
all_ascii (d ∷ ds) h = ap₂ ◌&&◌ (ascii d h.0) (all_ascii ds h.1)

record IsPadded (k n : ℕ) : Type 0 where
  pub size : length (in_digits k n) ≡ k
  pub digits : list_all is_ascii_digit (in_digits k n) ≡ true
  pub value : digits_value 10 (in_digits k n) ≡ n

padded_is : (k n : ℕ) → 0 < k → n < 10 ^ k → n < 2 ^ 64 → IsPadded k n
padded_is k n some below wide =
    let few : length (decimal n) ≤ k = length-decimal-le k n some below wide in
    let numeral = decimal_is_IsNumeral n wide in
    record {
      size =
          length-append (replicate (k - length (decimal n)) 48) (decimal n)
          ∙ ap (λ l. l + length (decimal n)) (zeros_length (k - length (decimal n))) ∙ omega (arith, few);
      digits =
          list_all-append is_ascii_digit (replicate (k - length (decimal n)) 48) (decimal n)
          ∙ ap₂ ◌&&◌ (zeros_digits (k - length (decimal n))) (all_ascii (decimal n) numeral.0.1);
      value = zeros_first (k - length (decimal n)) (decimal n) ∙ numeral.1;
    }

decimal_is : (k n : ℕ) (text : List ℕ) → 0 < k → length text ≡ k → list_all is_ascii_digit text ≡ true
    → digits_value 10 text ≡ n → decimal_number k text ≡ Some n
decimal_is k n text some size digits value =
    let begun : nat_lt 0 (length text) ≡ true = lt-ltb 0 (length text) (omega (arith, size)) in
    let ended : nat_le (length text) k ≡ true = le-leb (length text) k (omega (arith, size)) in
    rw (begun, ended, digits) (ap Some value)

seven_is : (n : ℕ) (text : List ℕ) → length text ≡ 7 → list_all is_ascii_digit text ≡ true → digits_value 10 text ≡ n
    → seven_digits text ≡ Some n
seven_is n text size digits value =
    ap (λ l. if l == 7 then decimal_number 7 text else None) size ∙ decimal_is 7 n text (omega arith) size digits value

seven_joined : (owner n : ℕ) → IsPadded 3 owner → IsPadded 4 n
    → seven_digits (in_digits 3 owner ++ in_digits 4 n) ≡ Some (owner * 10000 + n)
seven_joined owner n a b =
    seven_is (owner * 10000 + n) (in_digits 3 owner ++ in_digits 4 n)
    (length-append (in_digits 3 owner) (in_digits 4 n) ∙ ap₂ ◌+◌ a.size b.size)
    (list_all-append is_ascii_digit (in_digits 3 owner) (in_digits 4 n) ∙ ap₂ ◌&&◌ a.digits b.digits)
    (joined_digits 0 (in_digits 3 owner) (in_digits 4 n)
    ∙ four_behind (digits_value 10 (in_digits 3 owner)) (in_digits 4 n) b.size
    ∙ ap₂ (λ o k. o * 10000 + k) a.value b.value)

pub source_again : (s : Source) → is_source s ≡ true → source_of_reel (source_reel s) ≡ Some s
source_again Black is = refl
source_again Bars is = refl
source_again (Own n) is =
    let below : n < 10 ^ 7 = grind (arith, nat_tests, is) in
    let p = padded_is 7 n (omega arith) below (omega (arith, below)) in
    ap own_source (seven_is n (in_digits 7 n) p.size p.digits p.value)
source_again (Lent owner n) is =
    let few : owner < 1000 = grind (arith, nat_tests, is) in
    let below : n < 10000 = grind (arith, nat_tests, is) in
    let a = padded_is 3 owner (omega arith) (omega (arith, few)) (omega (arith, few)) in
    let b = padded_is 4 n (omega arith) (omega (arith, below)) (omega (arith, below)) in
    ap lent_source (seven_joined owner n a b)
    ∙ ap₂ (λ o k. Some (Lent o k)) (div-mul-add owner 10000 n below)
    (mul-add-mod_self_right owner 10000 n ∙ mod-eq_of_lt below)

pub kind_again : (k : EditKind) → is_kind k ≡ true → kind_of (kind_text k) ≡ Some k
kind_again Cut is = refl
kind_again Dissolve is = refl
kind_again (Wipe n) is =
    let few : n < 1000 = grind (arith, nat_tests, is) in
    let p = padded_is 3 n (omega arith) (omega (arith, few)) (omega (arith, few)) in
    ap wipe (decimal_is 3 n (in_digits 3 n) (omega arith) p.size p.digits p.value)

-- ---- and a text that reads as one, in the form that is written, is its text

all_digits : (ds : List ℕ) → list_all is_ascii_digit ds ≡ true → AllDigits 10 ds
all_digits [] h = tt
all_digits (d ∷ ds) h = (digit d (first _ _ h), all_digits ds (second (is_ascii_digit d) _ h))
  where
    digit : (c : ℕ) → is_ascii_digit c ≡ true → digit_value c < 10
    digit c is =
        let value = digit_value_digit c (grind (arith, nat_tests, is), grind (arith, nat_tests, is)) in
        grind (arith, nat_tests, is, value)

no_zeros : (v : ℕ) (ds : List ℕ) → decimal v ≡ ds → in_digits (length ds) v ≡ ds
no_zeros v ds is =
    let none : length ds - length ds ≡ 0 = omega arith in
    ap (λ t. replicate (length ds - length t) 48 ++ t) is ∙ ap (λ k. replicate k 48 ++ ds) none

one_zero : (v k : ℕ) → length (decimal v) ≤ k → in_digits (suc k) v ≡ 48 ∷ in_digits k v
one_zero v k few =
    let more : suc k - length (decimal v) ≡ suc (k - length (decimal v)) = omega (arith, few) in
    ap (λ z. replicate z 48 ++ decimal v) more

below_seven : (ds : List ℕ) → length ds ≤ 7 → AllDigits 10 ds → digits_value 10 ds < 2 ^ 64
below_seven ds few digits =
    let below = digits_value-lt 10 ds digits in
    let most : 10 ^ length ds ≤ 10 ^ 7 = pow-le-pow_right (omega arith) few in
    omega (arith, below, most)

written : (ds : List ℕ) → 0 < length ds → length ds ≤ 7 → AllDigits 10 ds → (get_or ds 0 0 ≡ 48 → length ds ≡ 1)
    → in_digits (length ds) (digits_value 10 ds) ≡ ds
written ds some few digits lead =
    no_zeros (digits_value 10 ds) ds
    (decimal-digits_value (numerals_by_value (AllDigits 10) tells_digits) ds digits some lead
    (below_seven ds few digits))

padded_of : (ds : List ℕ) → 0 < length ds → length ds ≤ 7 → AllDigits 10 ds
    → in_digits (length ds) (digits_value 10 ds) ≡ ds
padded_of [] some few digits = absurd (omega arith)
padded_of (d ∷ []) some few digits = written (d ∷ []) some few digits (λ _. refl)
padded_of (d ∷ e ∷ ds) some few digits = by (d == 48) refl (padded_of (e ∷ ds) (omega arith) (omega arith) digits.1)
  where
    by : (b : Bool) → (d == 48) ≡ b → in_digits (length (e ∷ ds)) (digits_value 10 (e ∷ ds)) ≡ e ∷ ds
        → in_digits (length (d ∷ e ∷ ds)) (digits_value 10 (d ∷ e ∷ ds)) ≡ d ∷ e ∷ ds
    by false other rest = written (d ∷ e ∷ ds) some few digits (λ same. absurd (grind (arith, nat_tests, other, same)))
    by true same rest =
        let zero_is : 48 ≡ d = grind (arith, nat_tests, same) in
        let short : length (decimal (digits_value 10 (e ∷ ds))) ≤ length (e ∷ ds) =
        length-decimal-le (length (e ∷ ds)) (digits_value 10 (e ∷ ds)) (omega arith)
        (digits_value-lt 10 (e ∷ ds) digits.1) (below_seven (e ∷ ds) (omega arith) digits.1) in
        subst (λ z. in_digits (length (z ∷ e ∷ ds)) (digits_value 10 (z ∷ e ∷ ds)) ≡ z ∷ e ∷ ds) zero_is
        (one_zero (digits_value 10 (e ∷ ds)) (length (e ∷ ds)) short ∙ ap (λ l. 48 ∷ l) rest)

record IsNumber (most n : ℕ) (text : List ℕ) : Type 0 where
  pub some : 0 < length text
  pub few : length text ≤ most
  pub digits : AllDigits 10 text
  pub value : digits_value 10 text ≡ n

number_in : (most n : ℕ) (text : List ℕ) → decimal_number most text ≡ Some n → IsNumber most n text
number_in most n text is = by (is_decimal most text) refl is
  where
    by : (b : Bool) → is_decimal most text ≡ b → (if b then Some (digits_value 10 text) else None) ≡ Some n
        → IsNumber most n text
    by false e never = absurd (cc)
    by true yes_ same =
        let both : (nat_lt 0 (length text) && nat_le (length text) most) ≡ true =
        first (nat_lt 0 (length text) && nat_le (length text) most) (list_all is_ascii_digit text) yes_ in
        let bounds : nat_lt 0 (length text) ≡ true = first (nat_lt 0 (length text)) (nat_le (length text) most) both in
        let top : nat_le (length text) most ≡ true = second (nat_lt 0 (length text)) (nat_le (length text) most) both in
        record {
          some = grind (arith, nat_tests, bounds);
          few = grind (arith, nat_tests, top);
          digits = all_digits text (second (nat_lt 0 (length text) && nat_le (length text) most) _ yes_);
          value = cc;
        }

seven_in : (n : ℕ) (text : List ℕ) → seven_digits text ≡ Some n → (length text ≡ 7) × IsNumber 7 n text
seven_in n text is = by (length text == 7) refl is
  where
    by : (b : Bool) → (length text == 7) ≡ b → (if b then decimal_number 7 text else None) ≡ Some n
        → (length text ≡ 7) × IsNumber 7 n text
    by false e never = absurd (cc)
    by true yes_ same = (grind (arith, nat_tests, yes_), number_in 7 n text same)

own_is : (digits : List ℕ) (s : Source) → own_source (seven_digits digits) ≡ Some s → source_reel s ≡ 67 ∷ digits
own_is digits s is = by (seven_digits digits) refl is
  where
    by : (o : Option ℕ) → seven_digits digits ≡ o → own_source o ≡ Some s → source_reel s ≡ 67 ∷ digits
    by None e never = absurd (cc)
    by (Some n) found same =
        let seven = seven_in n digits found in
        let mine : Own n ≡ s = cc in
        ap source_reel (sym mine)
        ∙ ap (λ t. 67 ∷ t)
        (ap₂ in_digits (sym seven.0) (sym seven.1.value) ∙ padded_of digits seven.1.some seven.1.few seven.1.digits)

digits_front : (k : ℕ) (ds : List ℕ) → AllDigits 10 ds → AllDigits 10 (take k ds) × AllDigits 10 (drop k ds)
digits_front zero ds all = (tt, all)
digits_front (suc k) [] all = (tt, tt)
digits_front (suc k) (d ∷ ds) all = let rest = digits_front k ds all.1 in ((all.0, rest.0), rest.1)

lent_is : (digits : List ℕ) (s : Source) → lent_source (seven_digits digits) ≡ Some s → source_reel s ≡ 76 ∷ digits
lent_is digits s is = by (seven_digits digits) refl is
  where
    by : (o : Option ℕ) → seven_digits digits ≡ o → lent_source o ≡ Some s → source_reel s ≡ 76 ∷ digits
    by None e never = absurd (cc)
    by (Some n) found same =
        let seven = seven_in n digits found in
        let front = take 3 digits in
        let back = drop 3 digits in
        let parts = digits_front 3 digits seven.1.digits in
        let three : length front ≡ 3 = length-take-le 3 digits (omega (arith, seven.0)) in
        let four : length back ≡ 4 = length-drop 3 digits ∙ omega (arith, seven.0) in
        let split : front ++ back ≡ digits = take-append-drop 3 digits in
        let value : digits_value 10 front * 10000 + digits_value 10 back ≡ n =
        sym (four_behind (digits_value 10 front) back four) ∙ sym (joined_digits 0 front back)
        ∙ ap (digits_value 10) split ∙ seven.1.value in
        let small : digits_value 10 back < 10000 =
        subst (λ k. digits_value 10 back < 10 ^ k) four (digits_value-lt 10 back parts.1) in
        let owner_is : n / 10000 ≡ digits_value 10 front =
        ap (λ v. v / 10000) (sym value) ∙ div-mul-add (digits_value 10 front) 10000 (digits_value 10 back) small in
        let number_is : n % 10000 ≡ digits_value 10 back =
        ap (λ v. v % 10000) (sym value)
        ∙ mul-add-mod_self_right (digits_value 10 front) 10000 (digits_value 10 back) ∙ mod-eq_of_lt small in
        let mine : Lent (n / 10000) (n % 10000) ≡ s = cc in
        ap source_reel (sym mine)
        ∙ ap₂ (λ o k. source_reel (Lent o k)) owner_is number_is
        ∙ ap (λ t. 76 ∷ t)
        (ap₂ (λ a b. a ++ b)
        (ap (λ k. in_digits k (digits_value 10 front)) (sym three)
        ∙ padded_of front (omega (arith, three)) (omega (arith, three)) parts.0)
        (ap (λ k. in_digits k (digits_value 10 back)) (sym four)
        ∙ padded_of back (omega (arith, four)) (omega (arith, four)) parts.1)
        ∙ split)

numbered_is : (text : List ℕ) (s : Source) → numbered_source text ≡ Some s → source_reel s ≡ text
numbered_is [] s is = absurd (cc)
numbered_is (b ∷ digits) s is = by (b == 67) (b == 76) refl refl is
  where
    by : (x y : Bool) → (b == 67) ≡ x → (b == 76) ≡ y
        → (if x then own_source (seven_digits digits) else (if y then lent_source (seven_digits digits) else None))
        ≡ Some s → source_reel s ≡ b ∷ digits
    by true y own lent found =
        let letter : 67 ≡ b = grind (arith, nat_tests, own) in own_is digits s found ∙ ap (λ l. l ∷ digits) letter
    by false true own lent found =
        let letter : 76 ≡ b = grind (arith, nat_tests, lent) in lent_is digits s found ∙ ap (λ l. l ∷ digits) letter
    by false false own lent found = absurd (cc)

-- a reel that isn't the long name of black is the reel of the source that it names
pub reel_is : (text : List ℕ) (s : Source) → source_of_reel text ≡ Some s → (s ≡ Black → text ≡ codes "BL")
    → source_reel s ≡ text
reel_is text s is black =
    by (bytes_eq text (codes "BL") || bytes_eq text (codes "BLACK")) (bytes_eq text (codes "BARS")) refl refl is
  where
    by : (x y : Bool) → (bytes_eq text (codes "BL") || bytes_eq text (codes "BLACK")) ≡ x
        → bytes_eq text (codes "BARS") ≡ y
        → (if x then Some Black else (if y then Some Bars else numbered_source text)) ≡ Some s → source_reel s ≡ text
    by true y a b found = let mine : Black ≡ s = cc in ap source_reel (sym mine) ∙ sym (black (sym mine))
    by false true a b found =
        let mine : Bars ≡ s = cc in ap source_reel (sym mine) ∙ sym ((bytes_eq-Decides text (codes "BARS")).0 b)
    by false false a b found = numbered_is text s found

-- a kind's word, in which a wipe has three digits, is the text of the kind that it says
pub word_is : (text : List ℕ) (k : EditKind) → kind_of text ≡ Some k → ((n : ℕ) → k ≡ Wipe n → length text ≡ 4)
    → kind_text k ≡ text
word_is text k is four =
    by (bytes_eq text (codes "C")) (bytes_eq text (codes "D")) (slice_index text 0 == 87) refl refl refl is
  where
    wiped : (o : Option ℕ) → decimal_number 3 (drop 1 text) ≡ o → slice_index text 0 ≡ 87 → wipe o ≡ Some k
        → kind_text k ≡ text
    wiped None e letter found = absurd (cc)
    wiped (Some n) digits letter found =
        let mine : Wipe n ≡ k = cc in
        let number = number_in 3 n (drop 1 text) digits in
        let size : length text ≡ 4 = four n (sym mine) in
        let three : length (drop 1 text) ≡ 3 = length-drop 1 text ∙ omega (arith, size) in
        ap kind_text (sym mine)
        ∙ ap (λ t. 87 ∷ t)
        (ap₂ in_digits (sym three) (sym number.value)
        ∙ padded_of (drop 1 text) number.some (omega (arith, number.few)) number.digits)
        ∙ whole text letter (omega (arith, size))
      where
        whole : (t : List ℕ) → slice_index t 0 ≡ 87 → 0 < length t → 87 ∷ drop 1 t ≡ t
        whole [] first_is some = absurd (omega arith)
        whole (b ∷ bs) first_is some = ap (λ l. l ∷ bs) (sym first_is)

    by : (x y z : Bool) → bytes_eq text (codes "C") ≡ x → bytes_eq text (codes "D") ≡ y → (slice_index text 0 == 87) ≡ z
        → (if x then Some Cut
        else (if y then Some Dissolve else (if z then wipe (decimal_number 3 (drop 1 text)) else None))) ≡ Some k
        → kind_text k ≡ text
    by true y z a b c found =
        let mine : Cut ≡ k = cc in ap kind_text (sym mine) ∙ sym ((bytes_eq-Decides text (codes "C")).0 a)
    by false true z a b c found =
        let mine : Dissolve ≡ k = cc in ap kind_text (sym mine) ∙ sym ((bytes_eq-Decides text (codes "D")).0 b)
    by false false true a b c found = wiped (decimal_number 3 (drop 1 text)) refl (grind (arith, nat_tests, c)) found
    by false false false a b c found = absurd (cc)

-- a written wipe has four characters
pub wipe_length : (n : ℕ) → is_kind (Wipe n) ≡ true → length (kind_text (Wipe n)) ≡ 4
wipe_length n is =
    let few : n < 1000 = grind (arith, nat_tests, is) in
    let p = padded_is 3 n (omega arith) (omega (arith, few)) (omega (arith, few)) in
    omega (arith, p.size)
