-- `TakenNumbers::of`: those of these items.
use Rattle.std.proofs.Common.{◌∙◌, List, Bool, ap, get_or, false}
use Rattle.std.proofs.lemmas.List.{get_or-replicate}
use Rattle.playlist_core.specs.declared.numbers.TheConstants.{NUMBERS}
use Rattle.playlist_core.proofs.numbers.TakenNumbers.of.Goals as goal

pub mark_numbers-requires-clause-none : goal.mark_numbers-requires-clause-none
mark_numbers-requires-clause-none c =
    λ n lt. ap (λ (bs : List Bool). get_or bs n false) (c.deref_mut.ensures.value ∙ c.in_ok-taken.ensures.items)
    ∙ get_or-replicate NUMBERS n false false lt
