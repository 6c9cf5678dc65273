-- `SortedRows::from_rows`: these rows, in whatever order they come.
use Rattle.std.proofs.Common.{sym, subst, rules, List}
use Rattle.std.specs.Prelude.{IsPermutation}
use Rattle.std.specs.List.Sorted.{IsNonDecreasingBy}
use Rattle.std.proofs.lemmas.List.Sorted.{IsNonDecreasingBy-from_sort_by_key, IsPermutation-sym, IsPermutation-trans}
use Rattle.playlist_core.specs.Order.{AreApart}
use Rattle.playlist_core.proofs.AnyOrderLemmas.{apart-IsPermutation, refuted}
use Rattle.asrun_match.specs.declared.aired.AiredRow.{AiredRow}
use Rattle.asrun_match.specs.Aired.{aired}
use Rattle.asrun_match.proofs.sorted.SortedRows.from_rows.Goals as goal

pub returns-else-lie_apart-clause-none : goal.returns-else-lie_apart-clause-none
returns-else-lie_apart-clause-none c = λ order moved apart.
    let sorted : List AiredRow = c.sort_unstable_by_key.new.self.items in
    let again : IsPermutation order sorted =
    IsPermutation-trans order c.args.rows.items sorted (IsPermutation-sym c.args.rows.items order moved)
    c.sort_unstable_by_key.ensures.permutation in
    let rises : IsNonDecreasingBy (λ (r : AiredRow). r.pos) sorted =
    IsNonDecreasingBy-from_sort_by_key (λ (r : AiredRow). r.pos) sorted c.sort_unstable_by_key.ensures.sorted
    (λ a r after called. search rules) in
    refuted c.lie_apart.result (AreApart aired 0 c.args.frames c.deref.result.now) c.lie_apart.ensures
    c.if-lie_apart.false
    (subst (AreApart aired 0 c.args.frames) (sym c.deref.ensures.value)
    (apart-IsPermutation aired c.args.frames order sorted again rises apart))
