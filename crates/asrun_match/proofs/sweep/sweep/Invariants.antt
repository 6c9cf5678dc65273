-- The loops of `sweep` (adds the runs of a day to an empty list with room for them).
use Rattle.std.proofs.Common.{◌≡◌, ◌≤◌, ◌+◌, ◌-◌, ◌*◌, ◌++◌, length, vec_len}
use Rattle.std.specs.Prelude.{vec_capacity}
use Rattle.playlist_core.specs.Item.{planned}
use Rattle.playlist_core.proofs.PictureLemmas.{table}
use Rattle.asrun_match.specs.Aired.{aired}
use Rattle.asrun_match.specs.Runs.{LieInRow, spelled}
use Rattle.asrun_match.proofs.AheadLemmas.{LieAhead, CoverAhead, changes}
use Rattle.asrun_match.proofs.SweepLemmas.{status_at}
use Rattle.asrun_match.proofs.sweep.sweep.Given as goal

-- the runs so far, and what is left of the lists, spell the whole
abbrev pub invariant-loop-item : goal.invariant-loop-item
invariant-loop-item l = record {
  cover : CoverAhead planned l.at l.frames l.items;
  ahead : LieAhead aired l.at l.frames l.rows;
  behind : length (spelled l.runs.items) ≡ l.at;
  row : LieInRow 0 l.runs.items;
  list : spelled l.runs.items ++ table (status_at l.items l.rows) l.at (l.frames - l.at)
      ≡ table (status_at l.plan l.airing) 0 l.frames;
  room : vec_len l.runs + (length l.items + changes aired l.at l.rows) ≤ length l.plan + 2 * length l.airing;
  space : length l.plan + 2 * length l.airing ≤ vec_capacity l.runs;
}

abbrev pub decreases-loop-item : goal.decreases-loop-item
decreases-loop-item l = length l.items + changes aired l.at l.rows
