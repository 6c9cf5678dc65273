-- `rows_in`: the items of a day, and the rows of what was aired of it.
use Rattle.std.proofs.Common.{◌+◌, ◌*◌, ◌∙◌, ap, ap₂, sym, length}
use Rattle.std.proofs.lemmas.List.Sorted.{length_permutation}
use Rattle.rows_at_hand.specs.Known.{aired_rows}
use Rattle.rows_at_hand.proofs.known.rows_in.Goals as goal

pub returns-in-Some : goal.returns-in-Some
returns-in-Some c =
    ap₂ (λ n m. n + m) (ap length c.items-items.ensures)
    (ap (λ n. 2 * n) (length_permutation _ _ c.rows.ensures.rows) ∙ ap aired_rows (sym c.in-Some.is))
