-- `free_number`: the least number that no item has.
use Rattle.std.proofs.Common.{◌∙◌, false}
use Rattle.std.proofs.lemmas.List.{get_or-replicate}
use Rattle.playlist_core.specs.declared.numbers.TheConstants.{NUMBERS}
use Rattle.playlist_core.proofs.FillingLemmas.{free_marked}
use Rattle.playlist_core.proofs.numbers.free_number.Goals as goal

pub mark_numbers-requires-clause-none : goal.mark_numbers-requires-clause-none
mark_numbers-requires-clause-none c = λ n lt. get_or-replicate NUMBERS n false false lt

pub returns : goal.returns
returns c = c.first_free.ensures ∙ free_marked _ c.args.items.now c.mark_numbers.ensures.marks
