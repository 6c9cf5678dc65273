-- `is_there`: whether the item's day is there.
use Rattle.std.proofs.Common.{◌∙◌, rules}
use Rattle.std.proofs.lemmas.Fn.{always_returns_same}
use Rattle.station_tables_records.proofs.BisectLemmas.{searched_day}
use Rattle.station_tables_records.proofs.days.is_there.Goals as goal

pub returns : goal.returns
returns c =
    let r = c.args.row.now in
    c.is_ok.ensures.value
    ∙ searched_day r.0 r.1.day c.args.days.now c.binary_search_by_key.result c.requires.rise
    c.binary_search_by_key.ensures.bound
    (c.binary_search_by_key.ensures.position (λ d. (d.0, d.1.number))
    (always_returns_same _ _ _ (λ a r f called. search rules)))
