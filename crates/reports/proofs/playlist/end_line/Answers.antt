-- `end_line`: the last line of a plan table.
use Rattle.std.proofs.Common.{◌≤◌, length, sym, subst}
use Rattle.playlist_core.specs.Limits.{most_items}
use Rattle.playlist_core.proofs.FewLemmas.{items_few}
use Rattle.reports.proofs.playlist.end_line.Goals as goal

pub frames_of-requires : goal.frames_of-requires
frames_of-requires c =
    subst (λ items. length items ≤ most_items) (sym c.items-2.ensures)
    (items_few c.args.day.now.items c.keep_the_rules.ensures.numbered)
