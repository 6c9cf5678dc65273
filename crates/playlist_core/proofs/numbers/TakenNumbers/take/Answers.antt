-- `TakenNumbers::take`: takes the least that is free.
use Rattle.std.proofs.Common.{◌≡◌, ◌+◌, ◌-◌, ◌<◌, ◌∙◌, List, Bool, length, not, false, true, Some, refl, sym, ap, arith}
use Rattle.std.proofs.Common.{length-set}
use Rattle.std.specs.Prelude.{slice_index_or, slice_set}
use Rattle.playlist_core.specs.Limits.{most_items}
use Rattle.playlist_core.specs.declared.numbers.TheConstants.{NUMBERS}
use Rattle.playlist_core.specs.Picture.{least}
use Rattle.playlist_core.proofs.AddLemmas.{least_found}
use Rattle.playlist_core.proofs.FillingLemmas.{free_next}
use Rattle.playlist_core.proofs.numbers.TakenNumbers.take.Goals as goal

pub index_mut-requires : goal.index_mut-requires
index_mut-requires c =
    let here = least_found (λ n. not (slice_index_or c.args.self.now n false)) 1 most_items c.args.number c.requires in
    omega (arith, here.1, c.self.invariant.0, c.self.inside.taken.ok.0, c.from-number.ensures)

pub first_free-self-inside-requires-clause-within : goal.first_free-self-inside-requires-clause-within
first_free-self-inside-requires-clause-within c =
    let here = least_found (λ n. not (slice_index_or c.args.self.now n false)) 1 most_items c.args.number c.requires in
    omega (arith, here.1, c.from-number.ensures)

pub invariant_of-self : goal.invariant_of-self
invariant_of-self c =
    let marks = c.self.inside.taken.items in
    let here = least_found (λ n. not (slice_index_or c.args.self.now n false)) 1 most_items c.args.number c.requires in
    let within : c.from-number.result < length marks =
    omega (arith, here.1, c.self.invariant.0, c.from-number.ensures) in
    let found : least (λ k. not (slice_index_or marks k false)) 1 most_items ≡ Some c.from-number.result =
    ap (λ (bs : List Bool). least (λ k. not (slice_index_or bs k false)) 1 most_items) c.self.view_is ∙ c.requires
    ∙ ap (λ n. Some n) (sym c.from-number.ensures) in (
      length-set marks c.from-number.result true ∙ c.self.invariant.0,
      c.first_free-self-inside.ensures
          ∙ ap
          (λ (bs : List Bool). least (λ k. not (slice_index_or bs k false)) (c.from-number.result + 1)
          (NUMBERS - (c.from-number.result + 1))) c.deref.ensures.value
          ∙ free_next marks c.from-number.result within
          (λ k. not (slice_index_or (slice_set marks c.from-number.result true) k false)) most_items (λ k. refl) found,
    )
