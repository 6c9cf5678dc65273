-- `frames_of`: how many frames these items have together.
use Rattle.std.proofs.Common.{◌≡◌, ℕ, List, map, sym, ap, ◌∙◌, arith}
use Rattle.std.specs.List.{sum, sum_by}
use Rattle.std.proofs.lemmas.List.{take_all}
use Rattle.std.proofs.lemmas.List.Sums.{sum-map}
use Rattle.sqlite_keyed.proofs.ListLemmas.{map-map}
use Rattle.playlist_core.specs.declared.item.Item.{Item}
use Rattle.report_texts.specs.Playlist.{frames_of}
use Rattle.station_tables_records.specs.declared.day_rows.ItemRow.{ItemRow}
use Rattle.station_tables_reading.proofs.day_counting.frames_of.Goals as goal

frames_in_rows : (rows : List (ℕ × ItemRow)) → sum_by (λ r. r.1.item.frames) rows ≡ frames_of (map (λ r. r.1.item) rows)
frames_in_rows rows =
    sym (sum-map (λ (r : ℕ × ItemRow). r.1.item.frames) rows)
    ∙ ap sum (sym (map-map (λ (i : Item). i.frames) (λ (r : ℕ × ItemRow). r.1.item) rows))

pub returns : goal.returns
returns c =
    c.loop-row.invariant
    ∙ ap (sum_by (λ r. r.1.item.frames)) (take_all c.loop-row.row-index c.args.items.now (omega arith))
    ∙ frames_in_rows c.args.items.now
