-- The loops of `insert_lines` (adds rows as the lines 1, 2 and so on of a batch that has none).
use Rattle.station_tables_writing.proofs.WriteLemmas.{HasLines}
use Rattle.station_tables_writing.proofs.airing_writing.insert_lines.Given as goal

abbrev pub invariant-loop-row : goal.invariant-loop-row
invariant-loop-row g l = HasLines g.S.Store l.fn.channel l.fn.day l.fn.batch l.fn.rows l.fn.tx l.row-index l.line l.tx
