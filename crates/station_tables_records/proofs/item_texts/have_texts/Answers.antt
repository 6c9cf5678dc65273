-- `have_texts`: the texts of the sources and kinds of a day's items read as these.
use Rattle.std.proofs.Common.{◌≡◌, true, subst}
use Rattle.std.specs.List.{list_all}
use Rattle.playlist_core.specs.Source.{is_source}
use Rattle.station_tables_records.proofs.ReelLemmas.{texts_held}
use Rattle.station_tables_records.proofs.item_texts.have_texts.Goals as goal

pub returns : goal.returns
returns c =
    texts_held c.args.day.now.items c.keep_the_rules.ensures.fields
    (subst (λ items. list_all (λ i. is_source i.src) items ≡ true) c.items.ensures c.have_reels.ensures)
