-- `rows_by_channel`: all rows of a table, by their keys, where each is of a channel of this plan.
use Rattle.std.proofs.Common.{◌∙◌, ◌+◌, List, [], drop, drop_of_length-le, length, sym, ap, subst, subst₂, arith}
use Rattle.std.proofs.lemmas.List.{at_drop_more}
use Rattle.sqlite.specs.State.{HasCleanDisk}
use Rattle.channel_plan.specs.declared.plan.PlanRow.{PlanRow}
use Rattle.station_tables_records.specs.MadeDays.{Rise, plan_cmp}
use Rattle.station_tables_records.specs.Inside.{inside}
use Rattle.station_tables_records.specs.Table.{HoldsFitting}
use Rattle.station_tables_records.proofs.InsideLemmas.{reads_on, reads_failed}
use Rattle.station_tables_statements.proofs.LookLemmas.{reads_then}
use Rattle.station_tables_opening.specs.Parts.{HoldsPart}
use Rattle.station_tables_opening.specs.declared.finding.Version.TheVariants.{First}
use Rattle.station_tables_records.proofs.MadeLemmas.{handed_on}
use Rattle.station_tables_opening.proofs.FindLemmas.{back}
use Rattle.station_tables_opening.proofs.PartLemmas.{part_begun, part_grown, part_whole, none_left, ids_differ}
use Rattle.station_tables_opening.proofs.PartLemmas.{reads_ok, rise_from, adds_then}
use Rattle.station_tables_opening.proofs.by_channel.rows_by_channel.Goals as goal

pub returns-in_err-count-clause-reads : goal.returns-in_err-count-clause-reads
returns-in_err-count-clause-reads g c =
    reads_failed g.S.Store _ _ _ _ c.from_residual.ensures.0 c.query_count.ensures.reads

pub returns-in_err-count-clause-ours : goal.returns-in_err-count-clause-ours
returns-in_err-count-clause-ours g c known clean =
    handed_on _ c.in_err-count.field-0.0 c.from_residual.result c.from_residual.ensures.1
    (λ is holds planned. c.in_err-count.ensures.ours is (c.query_count.ensures.short known clean))

pub loop-plan-init : goal.loop-plan-init
loop-plan-init g c =
    let t = g.T.StoredRow.table in
    let every = (inside g.S.Store c.args.tx.now).now.trees t.base.tree in
    let none =
    part_begun t g.met.T.StoredRow.is_table g.T.ChannelTable.channel_of g.met.T.ChannelTable.by_channel every
    c.args.channels.now in
    record {
      reads = reads_ok g.S.Store _ _ c.query_count.result c.in_ok-count.ensures.read c.query_count.ensures.reads;
      since = λ clean. clean;
      part =
          λ known clean. subst₂ (HoldsPart t every c.args.channels.now c.args.channels.now)
          (sym c.new-rows.ensures.items) (sym c.new-ids.ensures.items) none;
    }

pub returns-in_err-add_channel-clause-reads : goal.returns-in_err-add_channel-clause-reads
returns-in_err-add_channel-clause-reads g c =
    reads_failed g.S.Store _ _ _ _ c.from_residual-in_err-add_channel.ensures.0
    (reads_then g.S.Store _ _ _ _ _ c.loop-plan.invariant.reads c.add_channel.ensures.reads)

pub returns-in_err-add_channel-clause-ours : goal.returns-in_err-add_channel-clause-ours
returns-in_err-add_channel-clause-ours g c known clean =
    let early : HasCleanDisk (inside g.S.Store c.loop-plan.tx) =
    omega (arith, clean, c.add_channel.ensures.reads.survives.clean) in
    let b = back g.S.Store First _ _ _ c.loop-plan.invariant.reads early in
    handed_on _ c.in_err-add_channel.field-0.0 c.from_residual-in_err-add_channel.result
    c.from_residual-in_err-add_channel.ensures.1
    (λ is holds planned. c.in_err-add_channel.ensures.ours (b.known known) clean is
    (subst (HoldsFitting g.T.StoredRow.table g.T.StoredRow.fits) (sym b.trees) holds))

pub loop-plan-preserved : goal.loop-plan-preserved
loop-plan-preserved g c =
    let t = g.T.StoredRow.table in
    let trees = (inside g.S.Store c.args.tx.now).now.trees in
    let plan = c.args.channels.now in
    let i = c.loop-plan.plan-index in
    let turn = at_drop_more (λ (l : List PlanRow). l) plan i _ c.loop-plan-test.true in
    record {
      reads =
          reads_on g.S.Store _ _ _ tt
          (reads_then g.S.Store _ _ _ _ _ c.loop-plan.invariant.reads c.in_ok-add_channel.ensures.reads);
      since = λ clean. c.loop-plan.invariant.since (omega (arith, clean, c.add_channel.ensures.reads.survives.clean));
      part = λ known clean.
          let early : HasCleanDisk (inside g.S.Store c.loop-plan.tx) =
          omega (arith, clean, c.add_channel.ensures.reads.survives.clean) in
          let b = back g.S.Store First _ _ _ c.loop-plan.invariant.reads early in
          let adds = c.in_ok-add_channel.ensures.adds (b.known known) clean in
          part_grown t g.met.T.StoredRow.is_table g.T.ChannelTable.channel_of g.met.T.ChannelTable.by_channel trees plan
          _ (drop (i + 1) plan)
          (subst (Rise plan_cmp) turn (rise_from plan_cmp plan i c.requires)) _ _ _ _
          (subst (λ l. HoldsPart t (trees t.base.tree) plan l c.loop-plan.rows.items c.loop-plan.ids.items) turn
          (c.loop-plan.invariant.part known early))
          (adds_then t b.trees adds);
    }

pub returns-in_err-test_whole-clause-reads : goal.returns-in_err-test_whole-clause-reads
returns-in_err-test_whole-clause-reads g c =
    reads_failed g.S.Store _ _ _ _ c.from_residual-in_err-test_whole.ensures.0 c.loop-plan.invariant.reads

pub returns-clause-reads : goal.returns-clause-reads
returns-clause-reads g c = reads_on g.S.Store _ _ tt _ c.loop-plan.invariant.reads

pub returns-in_err-test_whole-clause-ours : goal.returns-in_err-test_whole-clause-ours
returns-in_err-test_whole-clause-ours g c known clean =
    let t = g.T.StoredRow.table in
    let trees = (inside g.S.Store c.args.tx.now).now.trees in
    let plan = c.args.channels.now in
    let part =
    subst (λ l. HoldsPart t (trees t.base.tree) plan l c.loop-plan.rows.items c.loop-plan.ids.items)
    (drop_of_length-le plan (omega arith)) (c.loop-plan.invariant.part known clean) in
    let many =
    c.in_ok-count.ensures.count (trees t.base.tree)
    (c.query_count.ensures.shown known (c.loop-plan.invariant.since clean)) in
    handed_on _ c.in_err-test_whole.field-0.0 c.from_residual-in_err-test_whole.result
    c.from_residual-in_err-test_whole.ensures.1
    (λ is holds planned.
    c.in_err-test_whole.ensures.ours is
    (ap length c.deref.ensures.value
    ∙ sym
    (none_left t g.met.T.StoredRow.is_table g.T.ChannelTable.channel_of g.met.T.ChannelTable.by_channel trees plan
    c.loop-plan.rows.items c.loop-plan.ids.items [] part holds.typed planned) ∙ many)
    (λ sorted same. ids_differ t g.met.T.StoredRow.is_table g.T.ChannelTable.channel_of g.met.T.ChannelTable.by_channel
    trees plan c.loop-plan.rows.items c.loop-plan.ids.items sorted part holds.typed same))

pub returns-clause-list : goal.returns-clause-list
returns-clause-list g c known clean =
    let t = g.T.StoredRow.table in
    let trees = (inside g.S.Store c.args.tx.now).now.trees in
    let plan = c.args.channels.now in
    let part =
    subst (λ l. HoldsPart t (trees t.base.tree) plan l c.loop-plan.rows.items c.loop-plan.ids.items)
    (drop_of_length-le plan (omega arith)) (c.loop-plan.invariant.part known clean) in
    let many =
    c.in_ok-count.ensures.count (trees t.base.tree)
    (c.query_count.ensures.shown known (c.loop-plan.invariant.since clean)) in
    let ids = c.in_ok-test_whole.ensures.ids in
    part_whole t g.met.T.StoredRow.is_table g.T.ChannelTable.channel_of g.met.T.ChannelTable.by_channel trees plan
    c.loop-plan.rows.items c.loop-plan.ids.items ids.0 part
    (many ∙ sym c.in_ok-test_whole.ensures.count ∙ ap length c.deref.ensures.value)
    (subst (Rise t.cmp) c.deref.ensures.value c.in_ok-test_whole.ensures.rise) ids.1 ids.2
