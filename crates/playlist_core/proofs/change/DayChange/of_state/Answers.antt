-- `DayChange::of_state`: the day `after`, which was `before` and had the same items.
use Rattle.std.proofs.Common.{◌∙◌, sym}
use Rattle.playlist_core.proofs.OneLemmas.{same_unlike}
use Rattle.playlist_core.proofs.change.DayChange.of_state.Goals as goal

pub made-requires-clause-deleted : goal.made-requires-clause-deleted
made-requires-clause-deleted c =
    c.new.ensures.items ∙ sym (same_unlike c.args.before.now.items c.args.after.items c.requires.same)

pub made-requires-clause-inserted : goal.made-requires-clause-inserted
made-requires-clause-inserted c =
    c.new-2.ensures.items ∙ sym (same_unlike c.args.after.items c.args.before.now.items (sym c.requires.same))
