-- The loops of `have_reels` (the reels of the items' sources name them).
use Rattle.std.proofs.Common.{◌≡◌, take, true}
use Rattle.std.specs.List.{list_all}
use Rattle.playlist_core.specs.Source.{is_source}
use Rattle.station_tables_records.proofs.item_texts.have_reels.Given as goal

-- those so far
abbrev pub invariant-loop-item : goal.invariant-loop-item
invariant-loop-item l = list_all (λ i. is_source i.src) (take l.item-index l.items) ≡ true
