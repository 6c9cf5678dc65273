-- `read_each`: what each of these rows reads as, or `None` where one reads as nothing.
use Rattle.std.proofs.Common.{◌≡◌, ◌+◌, ◌++◌, ◌∷◌, [], take, sym, ap, ◌∙◌, subst₂, add-one, rules}
use Rattle.std.specs.List.{AllZip}
use Rattle.std.proofs.Math.Seq.{take-suc}
use Rattle.sqlite_catalog.proofs.ListFacts.{zip_push}
use Rattle.station_tables_records.specs.RowReading.{ReadsAs}
use Rattle.station_tables_records.proofs.reading.read_each.Goals as goal

pub loop-row-preserved : goal.loop-row-preserved
loop-row-preserved g c =
    let rows = c.args.rows.now in
    let at = c.loop-row.row-index in
    let row = c.row-item.result in
    let value = c.in-Some.typed in
    let reads : ReadsAs g.R.Fn c.args.read row value = search rules in
    let taken : take at rows ++ row ∷ [] ≡ take (at + 1) rows =
    rw add-one (ap (λ r. take at rows ++ r ∷ []) c.row-item.is ∙ sym (take-suc rows at row c.loop-row-test.true)) in
    subst₂ (AllZip (ReadsAs g.R.Fn c.args.read)) taken (sym c.in_ok-push.ensures.items)
    (zip_push (ReadsAs g.R.Fn c.args.read) (take at rows) c.loop-row.list.items row value c.loop-row.invariant
    reads)
