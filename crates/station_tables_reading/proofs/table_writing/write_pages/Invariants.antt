-- The loops of `write_pages` (writes the lines of so many pages, from the first on).
use Rattle.std.proofs.Common.{◌≡◌, ◌*◌, take, ℕ, Ok}
use Rattle.std.specs.Io.KnownBytes.{Appends}
use Rattle.channel_view_model.specs.declared.table.TableFault.{TableFault}
use Rattle.station_tables_records.specs.Inside.{Looks}
use Rattle.station_tables_reading.specs.Lines.{WhileCleanSeen, joined, lines_of, shelved_of}
use Rattle.station_tables_reading.proofs.table_writing.write_pages.Given as goal

-- the pages in front were read and written, and their tapes counted
abbrev pub invariant-loop-page : goal.invariant-loop-page
invariant-loop-page g l = record {
  looks : Looks {X = ℕ} {E = TableFault} g.S.Store l.initial.tx l.tx (Ok l.shelved);
  shelved : WhileCleanSeen g.S.Store l.initial.tx l.tx l.channel l.plan
      (λ view. l.shelved ≡ shelved_of l.table (take (l.page * 64) view.own.tapes));
  written : WhileCleanSeen g.S.Store l.initial.tx l.tx l.channel l.plan
      (λ view. Appends (g.W.Write.contents l.initial.output) (g.W.Write.contents l.output)
      (joined (take (l.page * 64) (lines_of l.table view))));
}
