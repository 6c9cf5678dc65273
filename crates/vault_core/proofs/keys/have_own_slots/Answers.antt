-- `have_own_slots`: whether no two tapes stand in one slot.
use Rattle.std.proofs.Common.{◌∙◌, rules}
use Rattle.std.specs.Prelude.{nat_eq}
use Rattle.vault_core.specs.Rules.{slots_of}
use Rattle.vault_core.proofs.ApartLemmas.{numbers_apart, apart_both}
use Rattle.vault_core.proofs.keys.have_own_slots.Goals as goal

pub returns-in-Ok : goal.returns-in-Ok
returns-in-Ok c = numbers_apart _ (slots_of c.args.tapes.now) c.are_apart.result (search rules) c.are_apart.ensures

pub returns-in-Err : goal.returns-in-Err
returns-in-Err c = c.are_pairs_apart.ensures ∙ apart_both nat_eq (λ t. t.slot) c.args.tapes.now
