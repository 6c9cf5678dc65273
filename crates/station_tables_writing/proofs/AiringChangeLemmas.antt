-- What was aired of a day, put in its place, is a change of the set.
use Rattle.std.proofs.Common.{◌≡◌, ℕ, [], ◌∷◌}
use Rattle.sqlite.specs.State.{State}
use Rattle.asrun_match.specs.declared.day.DayAsRun.{DayAsRun}
use Rattle.channel_view_model.specs.Centre.{airing_changed}
use Rattle.station_tables_records.specs.MadeDays.{frames_of}
use Rattle.station_tables_records.specs.Schema.{batch, aired as aired_table}
use Rattle.station_tables_statements.specs.Rows.{channels_in, rows_of_tables, IsCentre, Changes}
use Rattle.station_tables_statements.proofs.AgreeLemmas.{with_airings, changed_in}
use Rattle.station_tables_statements.specs.AiredCalls.{PutsAiring}

pub airing_changes : (c : ℕ) (a : DayAsRun) (old new : State) → IsCentre old.now
    → frames_of (channels_in old.now.trees) c ≡ a.aired.frames → PutsAiring c a old new
    → Changes (airing_changed c a) old new
airing_changes c a old new was frames puts =
    changed_in (batch.tree ∷ aired_table.tree ∷ []) old new (airing_changed c a) puts.tables.schema puts.others
    (with_airings old.now new.now.trees was puts.tables.first puts.tables.second)
    (λ i. record (rows_of_tables old.now.trees) { aired = puts.airings (channels_in old.now.trees) frames i })
    (λ owned. (owned.0, puts.whole, owned.2)) puts.sound puts.shown
