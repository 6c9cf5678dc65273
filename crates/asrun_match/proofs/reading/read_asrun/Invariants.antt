-- The loops of `read_asrun` (the rows of a batch's text, or its first fault).
use Rattle.std.proofs.Common.{◌≡◌, ◌<◌, ℕ, List, Some}
use Rattle.std.specs.Prelude.{All}
use Rattle.csv.specs.Reading.{Ready, default_config, source_of, strip_bom}
use Rattle.csv.specs.declared.reader.Trim.TheVariants as trim
use Rattle.timecode.specs.Counting.{day_length}
use Rattle.asrun_match.specs.Aired.{FitsIn}
use Rattle.asrun_match.proofs.RecordLemmas.{IsLeft}
use Rattle.asrun_match.proofs.reading.read_asrun.Given as goal

-- what is left decides
abbrev pub invariant-loop-row : goal.invariant-loop-row
invariant-loop-row l =
    (l.row-iterator.rdr.trim ≡ trim.None) × Ready l.row-iterator.rdr × (0 < l.row-iterator.left)
    × (l.row-iterator.rdr.config ≡ default_config)
    × All (FitsIn (day_length l.fn.rate)) l.rows.items
    × (y : List ℕ) × (source_of (λ s. Some s.now) l.row-iterator.rdr ≡ Some y)
    × IsLeft l.fn.rate l.fn.start (strip_bom l.fn.csv) l.rows.items l.row-iterator.rdr.state y
