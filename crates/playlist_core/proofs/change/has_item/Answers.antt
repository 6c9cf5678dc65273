-- `has_item`: whether this item, with all its fields, is one of the day's.
use Rattle.playlist_core.specs.Difference.{is_among}
use Rattle.playlist_core.proofs.SameLemmas.{among_has_it, it_is_among, one_test}
use Rattle.playlist_core.proofs.change.has_item.Goals as goal

pub returns : goal.returns
returns c =
    let items = c.args.day.now.items in
    let x = c.args.item.now in
    one_test c.has.result (is_among items x) (λ yes. it_is_among items x (c.has.ensures.0 yes))
    (λ there. c.has.ensures.1 (among_has_it items x there))
