-- `read_table`: the rows of the channels of a plan, each with its channel.
use Rattle.std.proofs.Common.{rules as common, ◌≡◌, ◌<◌, ◌≤◌, ◌+◌, ◌*◌, ◌∙◌, length, sym, ap, subst, arith, length-append}
use Rattle.std.proofs.lemmas.List.{take_all}
use Rattle.station_tables_records.specs.Inside.{inside}
use Rattle.station_tables_statements.specs.Calls.{set_in}
use Rattle.station_tables_statements.proofs.LookLemmas.{looks_on, looks_err, looks_then, read_is_look}
use Rattle.station_tables_statements.proofs.LookLemmas.{was_clean}
use Rattle.channel_view_model.proofs.PlannedLemmas.{rows_planned, planned_more, planned_all}
use Rattle.station_tables_reading.proofs.VaultLemmas.{planned_fewer}
use Rattle.station_tables_reading.proofs.VaultLemmas.{bytes_more, bytes_past, read_before}
use Rattle.station_tables_reading.proofs.vaults_loading.read_table.Goals as goal

pub returns-in_err-more-clause-looks : goal.returns-in_err-more-clause-looks
returns-in_err-more-clause-looks g c =
    looks_err g.S.Store _ _ _ _ c.from_residual.ensures.0
    (looks_then g.S.Store _ _ _ _ _ c.loop-row.invariant.looks
    (read_is_look g.S.Store _ _ _ c.find.ensures.reads))

pub returns-in_default-clause-looks : goal.returns-in_default-clause-looks
returns-in_default-clause-looks g c =
    looks_on g.S.Store _ _ _ _
    (looks_then g.S.Store _ _ _ _ _ c.loop-row.invariant.looks
    (read_is_look g.S.Store _ _ _ c.in_ok-more.ensures.reads))

pub returns-in_err-extend_from_slice-clause-looks : goal.returns-in_err-extend_from_slice-clause-looks
returns-in_err-extend_from_slice-clause-looks g c =
    looks_err g.S.Store _ _ _ _ c.from_residual-in_err-extend_from_slice.ensures.0
    (looks_then g.S.Store _ _ _ _ _ c.loop-row.invariant.looks
    (read_is_look g.S.Store _ _ _ c.in_ok-more.ensures.reads))

pub loop-row-preserved : goal.loop-row-preserved
loop-row-preserved g c =
    let s = g.S.Store in
    let table = g.T.NumberedRow.rows_in (set_in (inside s c.args.tx.now)) in
    let look = read_is_look s _ _ _ c.in_ok-more.ensures.reads in
    let before = c.loop-row.invariant in
    let found =
    read_before s _ _ _ _ _ g.T.NumberedRow.rows_in c.in_ok-more.more.items _ before.looks look
    c.in_ok-more.ensures.rows in
    let rows = c.loop-row.rows.items in
    let counted : c.len.result ≡ length c.in_ok-more.more.items = search common in
    let longer =
    ap length c.in_ok-extend_from_slice.ensures.items ∙ length-append rows c.deref.result.now
    ∙ ap (λ l. length rows + length l) c.deref.ensures.value in
    record {
      looks = looks_on s _ _ _ c.in-Some.rest (looks_then s _ _ _ _ _ before.looks look);
      left = ap (λ n. n * c.args.size + c.in-Some.rest) longer
          ∙ bytes_more (length rows) (length c.in_ok-more.more.items) c.args.size c.loop-row.left c.in-Some.rest
          c.args.most before.left (ap (λ n. n * c.args.size + c.in-Some.rest) (sym counted) ∙ c.in-Some.ensures.left);
      rows = λ centre clean. c.in_ok-extend_from_slice.ensures.items
          ∙ planned_more table c.args.plan.now c.loop-row.row-index _ rows c.deref.result.now (omega arith)
          (before.rows centre (was_clean s _ _ _ look clean))
          (c.deref.ensures.value ∙ found centre clean);
    }

pub returns-in_default-clause-rows : goal.returns-in_default-clause-rows
returns-in_default-clause-rows g c centre clean order planned =
    let s = g.S.Store in
    let table = g.T.NumberedRow.rows_in (set_in (inside s c.args.tx.now)) in
    let plan = c.args.plan.now in
    let i = c.loop-row.row-index in
    let look = read_is_look s _ _ _ c.in_ok-more.ensures.reads in
    let before = c.loop-row.invariant in
    let rows = c.loop-row.rows.items in
    let more = c.in_ok-more.more.items in
    let found =
    read_before s _ _ _ _ _ g.T.NumberedRow.rows_in more _ before.looks look c.in_ok-more.ensures.rows in
    let so_far =
    planned_more table plan i _ rows more (omega arith) (before.rows centre (was_clean s _ _ _ look clean))
    (found centre clean) in
    let counted : c.len.result ≡ length more = search common in
    let fewer : length rows + length more ≤ length table =
    omega (arith, length-append rows more, ap length so_far, planned_fewer plan table (i + 1) order planned) in
    bytes_past (length rows) (length more) c.args.size c.loop-row.left c.args.most (length table) before.left
    (subst (λ n. c.loop-row.left < n * c.args.size) counted c.in_default.ensures.none) fewer

pub returns-clause-rows : goal.returns-clause-rows
returns-clause-rows g c centre clean order planned =
    let table = g.T.NumberedRow.rows_in (set_in (inside g.S.Store c.args.tx.now)) in
    c.loop-row.invariant.rows centre clean
    ∙ ap (rows_planned table) (take_all c.loop-row.row-index c.args.plan.now (omega arith))
    ∙ planned_all c.args.plan.now table order planned
