-- `is_rising`: whether rows are in the order of their channels.
use Rattle.std.proofs.Common.{◌≡◌, rules}
use Rattle.std.specs.Prelude.{nat_le}
use Rattle.std.specs.List.{IsAllAdjacentAnswer}
use Rattle.std.proofs.lemmas.Fn.{always_returns_same}
use Rattle.channel_view.proofs.OrderLemmas.{rising_from_test}
use Rattle.channel_view.proofs.mem.is_rising.Goals as goal

pub returns : goal.returns
returns g c =
    let key = g.R.OfChannel.channel_of in
    let answer : IsAllAdjacentAnswer (λ x y b. b ≡ nat_le (key x) (key y)) c.args.rows.now c.is_sorted_by.result =
    c.is_sorted_by.ensures.cases (λ x y. nat_le (key x) (key y))
    (always_returns_same _ _ _ (λ a r f called. search rules)) in
    rising_from_test key c.args.rows.now c.is_sorted_by.result answer
