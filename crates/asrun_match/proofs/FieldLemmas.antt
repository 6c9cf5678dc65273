-- The four fields of a row.
use Rattle.std.proofs.Common.{◌≡◌, ◌∙◌, ℕ, zero, suc, ◌<◌, List, [], ◌∷◌, Option, Some, None, length, refl, sym, ap}
use Rattle.std.proofs.Common.{arith}
use Rattle.std.specs.Option.{option_map}
use Rattle.csv.specs.Records.{field_at}
use Rattle.asrun_match.specs.declared.reading.Fields.{Fields}
use Rattle.asrun_match.specs.Rows.{row_fields, fields_shown}

-- a record that lacks one of them
lacking : (fields : List (List ℕ)) (k : ℕ) → k < 4 → field_at fields k ≡ None → row_fields fields ≡ None
unfolding field_at
lacking [] k lt none = refl
lacking (a ∷ []) k lt none = refl
lacking (a ∷ b ∷ []) k lt none = refl
lacking (a ∷ b ∷ c ∷ []) k lt none = refl
lacking (a ∷ b ∷ c ∷ d ∷ e ∷ rest) k lt none = refl
lacking (a ∷ b ∷ c ∷ d ∷ []) zero lt none = cc none
lacking (a ∷ b ∷ c ∷ d ∷ []) (suc zero) lt none = cc none
lacking (a ∷ b ∷ c ∷ d ∷ []) (suc (suc zero)) lt none = cc none
lacking (a ∷ b ∷ c ∷ d ∷ []) (suc (suc (suc zero))) lt none = cc none
lacking (a ∷ b ∷ c ∷ d ∷ []) (suc (suc (suc (suc k)))) lt none = absurd (omega (arith, lt))

pub none_of : (fields : List (List ℕ)) (k : ℕ) (o : Option Fields) → k < 4 → o ≡ None → None ≡ field_at fields k
    → option_map fields_shown o ≡ row_fields fields
none_of fields k o lt is none = ap (option_map fields_shown) is ∙ sym (lacking fields k lt (sym none))

pub four_of : (fields : List (List ℕ)) (a b c d : List ℕ) → length fields ≡ 4 → Some a ≡ field_at fields 0
    → Some b ≡ field_at fields 1 → Some c ≡ field_at fields 2 → Some d ≡ field_at fields 3
    → Some (record { label = a; frames = b; reel = c; source = d }) ≡ row_fields fields
unfolding field_at
four_of (p ∷ q ∷ r ∷ s ∷ []) a b c d four ia ib ic id = cc (ia, ib, ic, id)
four_of [] a b c d four ia ib ic id = cc ia
four_of (p ∷ []) a b c d four ia ib ic id = cc ib
four_of (p ∷ q ∷ []) a b c d four ia ib ic id = cc ic
four_of (p ∷ q ∷ r ∷ []) a b c d four ia ib ic id = cc id
four_of (p ∷ q ∷ r ∷ s ∷ t ∷ rest) a b c d four ia ib ic id = absurd (omega (arith, four))
