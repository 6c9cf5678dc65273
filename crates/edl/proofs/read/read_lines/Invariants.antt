-- The loops of `read_lines` (what all lines of the text say).
use Rattle.std.proofs.Common.{◌+◌, ◌≤◌, List, ℕ, length}
use Rattle.edl.specs.Limits.{most_events}
use Rattle.edl.specs.Text.{line_texts}
use Rattle.edl.specs.EntryShown.{entries_of, title_shown}
use Rattle.std.specs.Prelude.{All}
use Rattle.edl.specs.InDay.{IsEntryInDay}
use Rattle.edl.proofs.ProgressLemmas.{IsReadTo}
use Rattle.edl.proofs.read.read_lines.Given as goal

abbrev pub invariant-loop-rest : goal.invariant-loop-rest
invariant-loop-rest l =
    All (IsEntryInDay l.rules.rate) (entries_of l.progress.events.items) × (l.progress.counted ≤ most_events)
    × (l.progress.line + length l.rest ≤ length l.fn.text)
    × ((before : List (List ℕ))
    × IsReadTo l.rules.rate l.rules.ignore_mismatch (line_texts l.fn.text) before (line_texts l.rest) l.progress.line
    l.progress.counted (title_shown l.progress.title) (entries_of l.progress.events.items))

abbrev pub decreases-loop-rest : goal.decreases-loop-rest
decreases-loop-rest l = length l.rest
