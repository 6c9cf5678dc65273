-- The labels of the clips that are lent to a channel, over the offers of all channels.
use Rattle.std.proofs.Common.{◌≡◌, ℕ, ◌<◌, [], ◌∷◌, length, get_or, false, refl, sym, ◌∙◌, ap, arith}
use Rattle.std.specs.List.{list_all}
use Rattle.std.proofs.lemmas.Bool.Decides.{nat_tests}
use Rattle.std.proofs.lemmas.List.Folds.{list_all_at}
use Rattle.report_texts.specs.Lent.{grants_have_labels}
use Rattle.vault_core.specs.declared.offer.Offer.{Offer}
use Rattle.channel_view_model.specs.Tables.{Table}
use Rattle.channel_view_model.specs.Seen.{grants_to}

labels_of_grants : (c : ℕ) (t : Table Offer)
    → list_all (λ r. grants_have_labels (grants_to c (r ∷ []))) t ≡ grants_have_labels (grants_to c t)
labels_of_grants c [] = refl
labels_of_grants c (r ∷ rs) = grind (arith, nat_tests, labels_of_grants c rs)

-- one of them lacks its label
pub one_unlabelled : (c : ℕ) (t : Table Offer) (i : ℕ) (r : ℕ × Offer) → i < length t → r ≡ get_or t i r
    → grants_have_labels (grants_to c (r ∷ [])) ≡ false
    → grants_have_labels (grants_to c t) ≡ false
one_unlabelled c t i r lt is lacks =
    let has = λ (r : ℕ × Offer). grants_have_labels (grants_to c (r ∷ [])) in
    sym (labels_of_grants c t) ∙ list_all_at has t i r lt (ap has (sym is) ∙ lacks)
