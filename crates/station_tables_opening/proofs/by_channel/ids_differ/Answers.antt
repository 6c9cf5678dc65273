-- `ids_differ`: whether no rowid comes twice.
use Rattle.std.proofs.Common.{◌≡◌, subst, rules, is_lt, int_cmp}
use Rattle.std.specs.List.{IsAllAdjacentAnswer}
use Rattle.std.proofs.lemmas.Cmp.{int_cmp_total}
use Rattle.std.proofs.lemmas.Fn.{always_returns_same}
use Rattle.station_tables_records.proofs.KeyLemmas.{rise_from_test, rise_from_sorted, test_from_rise}
use Rattle.station_tables_opening.proofs.by_channel.ids_differ.Goals as goal

pub returns-clause-differ : goal.returns-clause-differ
returns-clause-differ c =
    let sorted = c.sort_unstable.new.self.items in
    let answer : IsAllAdjacentAnswer (λ x y b. b ≡ is_lt (int_cmp x y)) sorted c.is_sorted_by.result =
    subst (λ list. IsAllAdjacentAnswer (λ x y b. b ≡ is_lt (int_cmp x y)) list c.is_sorted_by.result)
    c.deref.ensures.value
    (c.is_sorted_by.ensures.cases (λ x y. is_lt (int_cmp x y))
    (always_returns_same _ _ _ (λ a r f called. search rules))) in
    λ yes. (
      sorted,
      c.sort_unstable.ensures.permutation,
      rise_from_test int_cmp int_cmp_total sorted
          (subst (IsAllAdjacentAnswer (λ x y b. b ≡ is_lt (int_cmp x y)) sorted) yes answer),
    )

pub returns-clause-same : goal.returns-clause-same
returns-clause-same c =
    let sorted = c.sort_unstable.new.self.items in
    let answer : IsAllAdjacentAnswer (λ x y b. b ≡ is_lt (int_cmp x y)) sorted c.is_sorted_by.result =
    subst (λ list. IsAllAdjacentAnswer (λ x y b. b ≡ is_lt (int_cmp x y)) list c.is_sorted_by.result)
    c.deref.ensures.value
    (c.is_sorted_by.ensures.cases (λ x y. is_lt (int_cmp x y))
    (always_returns_same _ _ _ (λ a r f called. search rules))) in
    λ apart. test_from_rise int_cmp int_cmp_total sorted c.is_sorted_by.result
    (rise_from_sorted int_cmp int_cmp_total sorted (apart sorted c.sort_unstable.ensures.permutation)
    c.sort_unstable.ensures.sorted) answer
