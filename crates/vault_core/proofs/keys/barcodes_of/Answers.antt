-- `barcodes_of`: the barcodes of tapes.
use Rattle.std.proofs.Common.{rules, tests}
use Rattle.std.proofs.lemmas.Iterator.{YieldsList-from_slice, YieldsList-from_map_by}
use Rattle.std.proofs.lemmas.Iterator.Consumers.{map_from_collect}
use Rattle.std.proofs.lemmas.Result.{IfOk-at_ok}
use Rattle.vault_core.proofs.keys.barcodes_of.Goals as goal

pub returns : goal.returns
returns c =
    IfOk-at_ok _ c.in_ok-collect.was
    (map_from_collect _ c.collect.ensures.ran
    (YieldsList-from_map_by _ (λ r. r.now) (λ t. t.barcode) (YieldsList-from_slice c.args.tapes.now cc)
    c.map.ensures.closure (λ x r q k. search (rules, tests))))
