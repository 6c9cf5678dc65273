-- `insert_lines`: adds rows as the lines 1, 2 and so on of a batch that has none.
use Rattle.std.proofs.Common.{◌≡◌, ◌+◌, suc, subst, arith}
use Rattle.asrun_match.specs.declared.aired.AiredRow.{AiredRow}
use Rattle.station_tables_writing.proofs.WriteLemmas.{HasLines, one_line_more}
use Rattle.station_tables_writing.proofs.airing_writing.insert_lines.Goals as goal

pub loop-row-preserved : goal.loop-row-preserved
loop-row-preserved g c =
    let row : AiredRow = c.row-item.result in
    let i = c.loop-row.row-index in
    let same : suc i ≡ i + 1 = omega arith in
    subst
    (λ m. HasLines g.S.Store c.args.channel c.args.day c.args.batch c.args.rows.now c.args.tx.now m
    c.in_ok-line.line c.insert_line.new.tx) same
    (one_line_more g.S.Store c.args.channel c.args.day c.args.batch c.args.rows.now c.args.tx.now c.loop-row.tx
    c.insert_line.new.tx i c.loop-row.line c.loop-row.invariant
    c.in_ok-line.line c.in_ok-line.ensures c.loop-row-test.true row row c.row-item.is c.in_ok-insert_line.field-0
    c.in_ok-insert_line.ensures.writes c.in_ok-insert_line.ensures.makes)
