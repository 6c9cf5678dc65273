-- `imported_list`: takes the events of a list as items, all or none.
use Rattle.std.proofs.Common.{◌∙◌, refl, sym, subst, inr}
use Rattle.std.proofs.lemmas.Result.{err_from_is_err_and}
use Rattle.std.specs.Prelude.{All}
use Rattle.edl.specs.Text.{lines_of}
use Rattle.playlist_edl.specs.Importing.{HasShortMix, import_of}
use Rattle.playlist_edl.proofs.MixLemmas.{short_mixes}
use Rattle.playlist_edl.proofs.ImportLemmas.{not_open}
use Rattle.playlist_edl.proofs.importing.imported_list.Goals as goal

pub take_events-requires-clause-mixes : goal.take_events-requires-clause-mixes
take_events-requires-clause-mixes g c =
    subst (All HasShortMix) (sym (c.as_slice-events.ensures ∙ c.in-Ok.ensures.list.events_are))
    (short_mixes c.args.plan.now.rate 1 (lines_of c.args.text.now))

pub returns-in_err-check_open-clause-refused : goal.returns-in_err-check_open-clause-refused
unfolding import_of
returns-in_err-check_open-clause-refused g c =
    let p = err_from_is_err_and c.from_residual.result c.from_residual.ensures.1 in
    rw (p.1, p.2) (refl, inr (not_open c.args.day.now.state _ _ (sym c.in_err-check_open.ensures.reply)))
