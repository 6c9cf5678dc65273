-- The loops of `numbers_in` (the numbers that the values are, if each is one).
use Rattle.std.proofs.Common.{◌≡◌, ◌++◌, drop}
use Rattle.std.specs.Prelude.{option_map}
use Rattle.serde_json.specs.View.{items_view}
use Rattle.http_office_requests.specs.Request.{list_of, number_of}
use Rattle.http_office_requests.proofs.revision_body.numbers_in.Given as goal

-- those so far, and then the others, are all
abbrev pub invariant-loop-value : goal.invariant-loop-value
invariant-loop-value l =
    option_map (λ more. l.numbers.items ++ more) (list_of number_of (items_view (drop l.value-index l.values)))
    ≡ list_of number_of (items_view l.values)
