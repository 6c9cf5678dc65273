-- `compare_texts`: the lines of what differs between the lists of two texts.
use Rattle.std.proofs.Common.{List, subst}
use Rattle.edl.specs.Entry.{EventEntry}
use Rattle.edl.specs.EntryShown.{entries_of, title_shown}
use Rattle.edl_diff.specs.Lines.{IsComparison}
use Rattle.playout_lists.proofs.comparing.compare_texts.Goals as goal

pub returns-in-Ok-comparison_lines-clause-ok : goal.returns-in-Ok-comparison_lines-clause-ok
returns-in-Ok-comparison_lines-clause-ok c =
    let lines = c.in-Ok-comparison_lines.lines.items in
    let one = c.in-Ok.list in
    let other = c.in-Ok-read_from_string.list in (
      one.events,
      other.events,
      (title_shown one.title, one.head, c.in-Ok.ensures.list),
      (title_shown other.title, other.head, c.in-Ok-read_from_string.ensures.list),
      subst (λ (events : List EventEntry). IsComparison c.args.rate events other.events lines) c.as_slice.ensures
          (subst
          (λ (events : List EventEntry). IsComparison c.args.rate (entries_of c.as_slice.result.now) events lines)
          c.as_slice-2.ensures c.in-Ok-comparison_lines.ensures),
    )
