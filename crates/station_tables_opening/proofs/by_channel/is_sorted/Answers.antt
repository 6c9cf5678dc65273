-- `is_sorted`: whether each key comes before the next.
use Rattle.std.proofs.Common.{◌≡◌, subst, rules, is_lt}
use Rattle.std.specs.List.{IsAllAdjacentAnswer}
use Rattle.std.proofs.lemmas.Fn.{always_returns_same}
use Rattle.station_tables_records.proofs.KeyLemmas.{rise_from_test}
use Rattle.station_tables_opening.proofs.by_channel.is_sorted.Goals as goal

pub returns : goal.returns
returns g c =
    let cmp = g.T.StoredRow.table.cmp in
    let answer : IsAllAdjacentAnswer (λ x y b. b ≡ is_lt (cmp x y)) c.args.rows.now c.is_sorted_by.result =
    c.is_sorted_by.ensures.cases (λ x y. is_lt (cmp x y)) (always_returns_same _ _ _ (λ a r f called. search rules)) in
    λ yes. rise_from_test cmp g.met.T.StoredRow.is_table.total c.args.rows.now
    (subst (IsAllAdjacentAnswer (λ x y b. b ≡ is_lt (cmp x y)) c.args.rows.now) yes answer)
