-- `reconcile`: the runs of a sealed day, in the order of their positions: with so many items and aired rows.
use Rattle.std.proofs.Common.{◌∙◌, ◌≡◌, sym, ap, subst, length, arith}
use Rattle.std.specs.Prelude.{None}
use Rattle.std.proofs.lemmas.List.Sorted.{length_permutation}
use Rattle.playlist_core.specs.Picture.{first_empty, picture_of}
use Rattle.playlist_core.specs.Order.{AreEndToEnd}
use Rattle.playlist_core.specs.Item.{planned}
use Rattle.playlist_core.specs.Day.{FitState, picture_in}
use Rattle.playlist_core.proofs.FullLemmas.{full_end_to_end}
use Rattle.playlist_core.proofs.AnyOrderLemmas.{picture-IsPermutation}
use Rattle.asrun_match.specs.Aired.{aired, aired_picture, all_rows}
use Rattle.asrun_match.specs.Status.{statuses_of}
use Rattle.asrun_match.specs.Runs.{AreRunsOf}
use Rattle.asrun_match.proofs.RunLemmas.{sum_by-frames}
use Rattle.asrun_match.proofs.SweepLemmas.{length-statuses}
use Rattle.asrun_match.proofs.sweep.reconcile.Goals as goal

pub sweep-requires-clause-plan : goal.sweep-requires-clause-plan
sweep-requires-clause-plan c =
    let day = c.args.plan.now in
    let full : first_empty (picture_in day) ≡ None =
    subst (λ s. FitState s day.frames day.items) c.requires.sealed c.keep_the_rules.ensures.state in
    subst (λ n. AreEndToEnd planned 0 n c.items-items.result.now) (sym c.frames.ensures)
    (subst (AreEndToEnd planned 0 day.frames) (sym c.items-items.ensures)
    (full_end_to_end planned day.frames day.items c.keep_the_rules.ensures.apart full))

pub returns-clause-runs : goal.returns-clause-runs
returns-clause-runs c =
    let day = c.args.plan.now in
    let airing = c.args.airing.now in
    let rows = c.rows-rows.result.now in
    let same : picture_of aired airing.frames rows ≡ aired_picture airing =
    sym (picture-IsPermutation aired airing.frames (all_rows airing.batches) rows c.rows-rows.ensures.rows
    c.rows-rows.ensures.apart) in
    subst (λ list. AreRunsOf list c.sweep.new.runs.items)
    (ap (λ n. statuses_of (picture_of planned n c.items-items.result.now) (picture_of aired n rows)) c.frames.ensures
    ∙ ap (λ items. statuses_of (picture_of planned day.frames items) (picture_of aired day.frames rows))
    c.items-items.ensures
    ∙ ap (λ n. statuses_of (picture_in day) (picture_of aired n rows)) (sym c.requires.day)
    ∙ ap (statuses_of (picture_in day)) same)
    c.sweep.ensures.runs

pub returns-clause-frames : goal.returns-clause-frames
returns-clause-frames c =
    sum_by-frames c.sweep.new.runs.items
    ∙ ap length c.sweep.ensures.runs.spelled
    ∙ length-statuses c.frames.result c.items-items.result.now c.rows-rows.result.now
    ∙ c.frames.ensures

pub returns-clause-count : goal.returns-clause-count
returns-clause-count c =
    let airing = c.args.airing.now in
    let rows : length (all_rows airing.batches) ≡ length c.rows-rows.result.now =
    sym (length_permutation (all_rows airing.batches) c.rows-rows.result.now c.rows-rows.ensures.rows) in
    let items = ap length c.items-items.ensures in
    omega (arith, c.sweep.ensures.count, rows, items)

pub returns-clause-room : goal.returns-clause-room
returns-clause-room c =
    let airing = c.args.airing.now in
    let rows : length (all_rows airing.batches) ≡ length c.rows-rows.result.now =
    sym (length_permutation (all_rows airing.batches) c.rows-rows.result.now c.rows-rows.ensures.rows) in
    let items = ap length c.items-items.ensures in
    omega (arith, c.sweep.ensures.room, rows, items)
