-- `put_airing`: puts what was aired of a day in the place of what was.
use Rattle.std.proofs.Common.{◌≡◌, ◌-◌, List, length, sym, ap, ◌∙◌, subst, arith}
use Rattle.sqlite.specs.State.{HasCleanDisk}
use Rattle.std.specs.Prelude.{slice_get, Some}
use Rattle.asrun_match.specs.declared.aired.AiredRow.{AiredRow}
use Rattle.station_tables_records.specs.Inside.{inside}
use Rattle.station_tables_statements.specs.AiredCalls.{airings_in, ComesNextNow}
use Rattle.station_tables_writing.proofs.PutLemmas.{comes_next, last_rows, airing_put}
use Rattle.station_tables_writing.proofs.airing_writing.put_airing.Goals as goal

pub returns-in-Ok-add_batch-clause-puts : goal.returns-in-Ok-add_batch-clause-puts
returns-in-Ok-add_batch-clause-puts g c gets has clean =
    let old = inside g.S.Store c.args.tx.now in
    let new = inside g.S.Store c.add_batch.new.tx in
    let ch = c.args.channel in
    let a = c.args.airing.now in
    let number = c.in-Ok.number in
    let early : HasCleanDisk old = omega (arith, c.add_batch.ensures.writes.survives.clean, clean) in
    let counted : number ≡ length a.aired.batches = c.in-Ok.ensures.1 ∙ ap length c.batches-batches.ensures in
    let next : ComesNextNow ch a.day number old =
    λ first opened. comes_next ch a (airings_in old) (gets first opened) number counted in
    let adds = c.in-Ok-add_batch.ensures.adds next has clean in
    let opened = adds.shown.was_open in
    let rows_are = c.as_slice.ensures in
    let last_is : slice_get a.aired.batches (length a.aired.batches - 1) ≡ Some c.in-Some.last.now =
    subst (λ (bs : List (List AiredRow)). slice_get bs (length bs - 1) ≡ Some c.in-Some.last.now)
    c.batches-batches.ensures (sym c.in-Some.ensures.value) in
    airing_put ch a old new (gets early opened) number c.as_slice.result.now
    (rows_are ∙ last_rows ch a (airings_in old) (gets early opened) c.in-Some.last.now last_is) adds
