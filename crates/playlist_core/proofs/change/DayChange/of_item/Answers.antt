-- `DayChange::of_item`: the day `after`, which was `before`: of its items none differs but that of this number.
use Rattle.std.proofs.Common.{◌∙◌, sym}
use Rattle.playlist_core.proofs.OneLemmas.{unlike_of_number}
use Rattle.playlist_core.proofs.change.DayChange.of_item.Goals as goal

pub made-requires-clause-deleted : goal.made-requires-clause-deleted
made-requires-clause-deleted c =
    c.in_ok-deleted.ensures
    ∙ unlike_of_number c.args.number c.args.after.items c.args.before.now.items c.requires.others _ c.items.ensures

pub made-requires-clause-inserted : goal.made-requires-clause-inserted
made-requires-clause-inserted c =
    c.in_ok-inserted.ensures
    ∙ unlike_of_number c.args.number c.args.before.now.items c.args.after.items (sym c.requires.others) _
    c.items-2.ensures
