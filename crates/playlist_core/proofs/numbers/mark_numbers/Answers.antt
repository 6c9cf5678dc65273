-- `mark_numbers`: marks the numbers of items, where none is marked.
use Rattle.std.proofs.Common.{◌∙◌, ap, arith}
use Rattle.playlist_core.specs.declared.item.Item.{Item}
use Rattle.playlist_core.proofs.NumberLemmas.{read_within}
use Rattle.playlist_core.proofs.numbers.mark_numbers.Goals as goal

pub loop-item-init : goal.loop-item-init
loop-item-init c = record { size = c.requires.room; marks = c.requires.none }

pub bounds-taken-from : goal.bounds-taken-from
bounds-taken-from c =
    let within =
    read_within c.args.items.now c.loop-item.item-index c.item-item.result c.from.result
    (c.from.ensures ∙ ap (λ (i : Item). i.n) c.item-item.is) c.requires.numbered (omega arith) in omega (arith, within)
