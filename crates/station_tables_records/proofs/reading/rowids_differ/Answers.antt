-- `rowids_differ`: whether each of these rows has a rowid of its own in its first column.
use Rattle.std.proofs.Common.{◌≡◌, subst, rules, is_lt, int_cmp}
use Rattle.std.specs.List.{IsAllAdjacentAnswer}
use Rattle.std.proofs.lemmas.Cmp.{int_cmp_total}
use Rattle.std.proofs.lemmas.Fn.{always_returns_same}
use Rattle.sqlite_value.specs.declared.value.Value.TheVariants.{Int}
use Rattle.sqlite_trees.specs.Tree.{rowid}
use Rattle.station_tables_records.proofs.KeyLemmas.{AreRowids, zip_weaker, of_some, rise_from_test, rise_from_sorted}
use Rattle.station_tables_records.proofs.KeyLemmas.{test_from_rise, rowids_are_integers, rowids_apart, integers_apart}
use Rattle.station_tables_records.proofs.reading.rowids_differ.Goals as goal

pub returns : goal.returns
returns c =
    let rows = c.args.rows.now in
    let ids = c.in-Some.ids.items in
    let sorted = c.sort_unstable.new.self.items in
    let are : AreRowids rows ids =
    zip_weaker rows ids (of_some _ c.in_ok-ids.ensures.each c.in-Some.is)
    (λ row id reads. subst (λ r. rowid r ≡ Int id) reads.shows reads.says.met.0) in
    let answer : IsAllAdjacentAnswer (λ x y b. b ≡ is_lt (int_cmp x y)) sorted c.is_sorted_by.result =
    subst (λ list. IsAllAdjacentAnswer (λ x y b. b ≡ is_lt (int_cmp x y)) list c.is_sorted_by.result)
    c.deref.ensures.value
    (c.is_sorted_by.ensures.cases (λ x y. is_lt (int_cmp x y))
    (always_returns_same _ _ _ (λ a r f called. search rules))) in
    let same = c.sort_unstable.ensures.permutation in (
      (λ yes. (
        rowids_are_integers rows ids are,
        rowids_apart rows ids sorted are same
            (rise_from_test int_cmp int_cmp_total sorted
            (subst (IsAllAdjacentAnswer (λ x y b. b ≡ is_lt (int_cmp x y)) sorted) yes answer)),
      )),
      (λ apart. test_from_rise int_cmp int_cmp_total sorted c.is_sorted_by.result
          (rise_from_sorted int_cmp int_cmp_total sorted (integers_apart rows ids sorted are same apart.1)
          c.sort_unstable.ensures.sorted) answer),
    )
