-- `has_batch`: whether a batch is there.
use Rattle.std.proofs.Common.{◌∙◌, rules}
use Rattle.std.proofs.lemmas.Fn.{always_returns_same}
use Rattle.station_tables_records.proofs.AiredBisectLemmas.{searched_batch}
use Rattle.station_tables_records.proofs.airings.has_batch.Goals as goal

pub returns : goal.returns
returns c =
    c.is_ok.ensures.value
    ∙ searched_batch c.args.channel c.args.day c.args.number c.args.batches.now c.binary_search_by_key.result
    c.requires.rise c.binary_search_by_key.ensures.bound
    (c.binary_search_by_key.ensures.position (λ b. (b.0, b.1.day, b.1.number))
    (always_returns_same _ _ _ (λ a r f called. search rules)))
