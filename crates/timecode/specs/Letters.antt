-- Letters, digits and signs of texts, by their codes.
use Rattle.std.specs.Prelude.{ℕ}

abbrev pub letter_A : ℕ
letter_A = 65

abbrev pub letter_C : ℕ
letter_C = 67

abbrev pub letter_K : ℕ
letter_K = 75

abbrev pub letter_L : ℕ
letter_L = 76

abbrev pub letter_V : ℕ
letter_V = 86

abbrev pub letter_W : ℕ
letter_W = 87

abbrev pub digit_0 : ℕ
digit_0 = 48

abbrev pub star : ℕ
star = 42

abbrev pub slash : ℕ
slash = 47

abbrev pub colon : ℕ
colon = 58

abbrev pub semicolon : ℕ
semicolon = 59
