-- The loop of `read_table` (the rows of the channels of a plan).
use Rattle.std.proofs.Common.{◌≡◌, ◌+◌, ◌*◌, ℕ, length, take, Ok}
use Rattle.timecode.specs.declared.faults.Unavailable.{Unavailable}
use Rattle.station_tables_records.specs.Inside.{inside, Looks}
use Rattle.station_tables_statements.specs.Calls.{WhileCleanCentre, set_in}
use Rattle.channel_view_model.proofs.PlannedLemmas.{rows_planned}
use Rattle.station_tables_reading.proofs.vaults_loading.read_table.Given as goal

-- the rows of the channels in front were read, and what is left is what they leave
abbrev pub invariant-loop-row : goal.invariant-loop-row
invariant-loop-row g l = record {
  looks : Looks {X = ℕ} {E = Unavailable} g.S.Store l.initial.tx l.tx (Ok l.left);
  left : length l.rows.items * l.size + l.left ≡ l.most;
  rows : WhileCleanCentre g.S.Store l.initial.tx l.tx
      (l.rows.items ≡ rows_planned (g.T.NumberedRow.rows_in (set_in (inside g.S.Store l.initial.tx)))
      (take l.row-index l.plan));
}
