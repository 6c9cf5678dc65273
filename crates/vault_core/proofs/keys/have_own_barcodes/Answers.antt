-- `have_own_barcodes`: whether no two tapes have one barcode.
use Rattle.std.proofs.Common.{◌∙◌, rules}
use Rattle.std.specs.Prelude.{bytes_eq}
use Rattle.vault_core.specs.Rules.{barcodes_of}
use Rattle.vault_core.proofs.ApartLemmas.{barcodes_apart, apart-map}
use Rattle.vault_core.proofs.keys.have_own_barcodes.Goals as goal

pub returns-in-Ok : goal.returns-in-Ok
returns-in-Ok c = barcodes_apart _ (barcodes_of c.args.tapes.now) c.are_apart.result (search rules) c.are_apart.ensures

pub returns-in-Err : goal.returns-in-Err
returns-in-Err c = c.are_pairs_apart.ensures ∙ apart-map bytes_eq (λ t. t.barcode) c.args.tapes.now
