-- A day put in the place of another is a change of the set.
use Rattle.std.proofs.Common.{◌≡◌, ℕ, [], ◌∷◌}
use Rattle.sqlite.specs.State.{State}
use Rattle.playlist_core.specs.Day.{Day}
use Rattle.channel_view_model.specs.Centre.{day_changed}
use Rattle.station_tables_records.specs.MadeDays.{frames_of}
use Rattle.station_tables_records.specs.Schema.{day as day_tree, item as item_tree}
use Rattle.station_tables_statements.specs.Rows.{channels_in, rows_of_tables, IsCentre, Changes}
use Rattle.station_tables_statements.proofs.AgreeLemmas.{with_days, changed_in}
use Rattle.station_tables_statements.specs.DayCalls.{PutsDay}

pub day_changes : (c : ℕ) (d : Day) (old new : State) → IsCentre old.now
    → frames_of (channels_in old.now.trees) c ≡ d.frames → PutsDay c d old new → Changes (day_changed c d) old new
day_changes c d old new was frames puts =
    changed_in (day_tree.tree ∷ item_tree.tree ∷ []) old new (day_changed c d) puts.tables.schema puts.others
    (with_days old.now new.now.trees was puts.tables.first puts.tables.second)
    (λ i. record (rows_of_tables old.now.trees) { days = puts.days (channels_in old.now.trees) frames i })
    (λ owned. (puts.owned owned.0, owned.1, owned.2)) puts.sound puts.shown
