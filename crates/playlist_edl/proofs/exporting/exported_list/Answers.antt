-- `exported_list`: the list of a day, or the first refusal.
use Rattle.playlist_edl.proofs.ExportLemmas.{listed_all}
use Rattle.playlist_edl.proofs.exporting.exported_list.Goals as goal

pub list_text-requires-clause-listed : goal.list_text-requires-clause-listed
list_text-requires-clause-listed g c =
    listed_all c.args.plan.now (g.S.Sources.seen c.args.sources.now) c.args.day.now.items c.requires.listed
