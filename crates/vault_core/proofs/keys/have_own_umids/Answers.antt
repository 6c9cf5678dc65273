-- `have_own_umids`: whether no two clips have one UMID.
use Rattle.std.proofs.Common.{◌∙◌, rules}
use Rattle.std.specs.Prelude.{bytes_eq}
use Rattle.vault_core.specs.Clip.{umid_bytes}
use Rattle.vault_core.specs.Rules.{umids_of}
use Rattle.vault_core.proofs.ApartLemmas.{arrays_apart, apart-map}
use Rattle.vault_core.proofs.keys.have_own_umids.Goals as goal

pub returns-in-Ok : goal.returns-in-Ok
returns-in-Ok c = arrays_apart _ (umids_of c.args.clips.now) c.are_apart.result (search rules) c.are_apart.ensures

pub returns-in-Err : goal.returns-in-Err
returns-in-Err c = c.are_pairs_apart.ensures ∙ apart-map bytes_eq umid_bytes c.args.clips.now
