-- `set_of_tables`: the set of rows that the tables hold.
use Rattle.std.proofs.Common.{rules, sym, ap, ◌∙◌, subst, arith}
use Rattle.sqlite.specs.State.{HasCleanDisk}
use Rattle.station_tables_records.specs.Inside.{inside}
use Rattle.station_tables_records.specs.Table.{HoldsFitting, HoldsRows}
use Rattle.station_tables_records.specs.TapeRows.{tape_table, tape_fits}
use Rattle.station_tables_records.specs.ClipRows.{clip_table, clip_fits}
use Rattle.station_tables_statements.proofs.FitLemmas.{channels_fit, tapes_fit, clips_fit}
use Rattle.station_tables_statements.proofs.LookLemmas.{reads_then}
use Rattle.station_tables_records.proofs.InsideLemmas.{reads_on, reads_failed}
use Rattle.station_tables_records.specs.MadeDays.{MakeDays}
use Rattle.station_tables_records.specs.TablePairs.{aired_rows_in, day_rows_in}
use Rattle.station_tables_records.specs.MadeAirings.{MakeAirings}
use Rattle.station_tables_statements.specs.Rows.{channels_in}
use Rattle.station_tables_opening.specs.Opening.{HoldsRules, rows_at}
use Rattle.station_tables_records.proofs.MadeLemmas.{handed_on}
use Rattle.station_tables_opening.proofs.FindLemmas.{MadeOffers, MadeDays, MadeAirings, read_whole, known_of}
use Rattle.station_tables_opening.proofs.FindLemmas.{back, back_then, offer_rows_fit, windows_fit, days_fit, items_fit}
use Rattle.station_tables_opening.proofs.FindLemmas.{makes_days, batches_fitting, lines_fitting, airings_kept}
use Rattle.station_tables_opening.proofs.finding.set_of_tables.Goals as goal

pub returns-in_err-channels-clause-ours : goal.returns-in_err-channels-clause-ours
returns-in_err-channels-clause-ours g c ours clean =
    let old = inside g.S.Store c.args.tx.now in
    handed_on _ c.in_err-channels.field-0.0 c.from_residual.result c.from_residual.ensures.1
    (λ is holds. c.in_err-channels.ensures.ours (known_of c.args.version old ours) clean is
    (record { typed = holds.0; fit = channels_fit (rows_at c.args.version old.now.trees) holds.10 }))

pub returns-in_err-tapes-clause-ours : goal.returns-in_err-tapes-clause-ours
returns-in_err-tapes-clause-ours g c ours clean =
    let v = c.args.version in
    let old = inside g.S.Store c.args.tx.now in
    let before : HasCleanDisk (inside g.S.Store c.all_rows.new.tx) =
    omega (arith, clean, c.all_rows-2.ensures.reads.survives.clean) in
    let b0 = back g.S.Store v _ _ _ c.in_ok-channels.ensures.reads before in
    handed_on _ c.in_err-tapes.field-0.0 c.from_residual-in_err-tapes.result c.from_residual-in_err-tapes.ensures.1
    (λ is holds. c.in_err-tapes.ensures.ours (b0.known (known_of v old ours)) clean is
    (subst (HoldsFitting tape_table tape_fits) (sym b0.trees)
    (record { typed = holds.1; fit = tapes_fit (rows_at v old.now.trees) holds.10 })))

pub returns-in_err-clips-clause-ours : goal.returns-in_err-clips-clause-ours
returns-in_err-clips-clause-ours g c ours clean =
    let v = c.args.version in
    let old = inside g.S.Store c.args.tx.now in
    let before : HasCleanDisk (inside g.S.Store c.all_rows-2.new.tx) =
    omega (arith, clean, c.all_rows-3.ensures.reads.survives.clean) in
    let b1 = back g.S.Store v _ _ _ c.in_ok-tapes.ensures.reads before in
    let b0 = back g.S.Store v _ _ _ c.in_ok-channels.ensures.reads b1.clean in
    let to1 = back_then g.S.Store v _ _ _ b0 b1 in
    handed_on _ c.in_err-clips.field-0.0 c.from_residual-in_err-clips.result c.from_residual-in_err-clips.ensures.1
    (λ is holds. c.in_err-clips.ensures.ours (to1.known (known_of v old ours)) clean is
    (subst (HoldsFitting clip_table clip_fits) (sym to1.trees)
    (record { typed = holds.2; fit = clips_fit (rows_at v old.now.trees) holds.10 })))

pub returns-in_err-offers-clause-ours : goal.returns-in_err-offers-clause-ours
returns-in_err-offers-clause-ours g c ours clean =
    let v = c.args.version in
    let old = inside g.S.Store c.args.tx.now in
    let before : HasCleanDisk (inside g.S.Store c.all_rows-3.new.tx) =
    omega (arith, clean, c.all_made_offers.ensures.reads.survives.clean) in
    let b2 = back g.S.Store v _ _ _ c.in_ok-clips.ensures.reads before in
    let b1 = back g.S.Store v _ _ _ c.in_ok-tapes.ensures.reads b2.clean in
    let b0 = back g.S.Store v _ _ _ c.in_ok-channels.ensures.reads b1.clean in
    let to1 = back_then g.S.Store v _ _ _ b0 b1 in
    let to2 = back_then g.S.Store v _ _ _ to1 b2 in
    handed_on _ c.in_err-offers.field-0.0 c.from_residual-in_err-offers.result c.from_residual-in_err-offers.ensures.1
    (λ is holds. let here = subst (HoldsRules v) (sym to2.trees) holds in
    let trees = (inside g.S.Store c.all_rows-3.new.tx).now.trees in
    c.in_err-offers.ensures.ours (to2.has ours) clean is (offer_rows_fit v trees here) (windows_fit v trees here))

pub returns-in_err-days-clause-ours : goal.returns-in_err-days-clause-ours
returns-in_err-days-clause-ours g c ours clean =
    let v = c.args.version in
    let old = inside g.S.Store c.args.tx.now in
    let before : HasCleanDisk (inside g.S.Store c.all_made_offers.new.tx) =
    omega (arith, clean, c.all_made_days.ensures.reads.survives.clean) in
    let b3 = back g.S.Store v _ _ _ c.in_ok-offers.ensures.reads before in
    let b2 = back g.S.Store v _ _ _ c.in_ok-clips.ensures.reads b3.clean in
    let b1 = back g.S.Store v _ _ _ c.in_ok-tapes.ensures.reads b2.clean in
    let b0 = back g.S.Store v _ _ _ c.in_ok-channels.ensures.reads b1.clean in
    let to1 = back_then g.S.Store v _ _ _ b0 b1 in
    let to2 = back_then g.S.Store v _ _ _ to1 b2 in
    let to3 = back_then g.S.Store v _ _ _ to2 b3 in
    handed_on _ c.in_err-days.field-0.0 c.from_residual-in_err-days.result c.from_residual-in_err-days.ensures.1
    (λ is holds. let here = subst (HoldsRules v) (sym to3.trees) holds in
    let trees = (inside g.S.Store c.all_made_offers.new.tx).now.trees in
    let listed = c.in_ok-channels.ensures.list (known_of v old ours) b1.clean in
    c.in_err-days.ensures.ours (to3.known (known_of v old ours)) clean is (days_fit v trees here)
    (items_fit v trees here)
    (subst (λ cs. MakeDays cs (day_rows_in trees)) (ap channels_in to3.trees ∙ (listed.are ∙ search rules))
    (makes_days v trees here)))

pub returns-in_err-aired-clause-ours : goal.returns-in_err-aired-clause-ours
returns-in_err-aired-clause-ours g c ours clean =
    let v = c.args.version in
    let old = inside g.S.Store c.args.tx.now in
    let before : HasCleanDisk (inside g.S.Store c.all_made_days.new.tx) =
    omega (arith, clean, c.all_made_airings.ensures.reads.survives.clean) in
    let b4 = back g.S.Store v _ _ _ c.in_ok-days.ensures.reads before in
    let b3 = back g.S.Store v _ _ _ c.in_ok-offers.ensures.reads b4.clean in
    let b2 = back g.S.Store v _ _ _ c.in_ok-clips.ensures.reads b3.clean in
    let b1 = back g.S.Store v _ _ _ c.in_ok-tapes.ensures.reads b2.clean in
    let b0 = back g.S.Store v _ _ _ c.in_ok-channels.ensures.reads b1.clean in
    let to1 = back_then g.S.Store v _ _ _ b0 b1 in
    let to2 = back_then g.S.Store v _ _ _ to1 b2 in
    let to3 = back_then g.S.Store v _ _ _ to2 b3 in
    let to4 = back_then g.S.Store v _ _ _ to3 b4 in
    handed_on _ c.in_err-aired.field-0.0 c.from_residual-in_err-aired.result c.from_residual-in_err-aired.ensures.1
    (λ is holds. let here = subst (HoldsRules v) (sym to4.trees) holds in
    let trees = (inside g.S.Store c.all_made_days.new.tx).now.trees in
    let listed = c.in_ok-channels.ensures.list (known_of v old ours) b1.clean in
    c.in_err-aired.ensures.ours (to4.known (known_of v old ours)) clean is (batches_fitting v trees here)
    (lines_fitting v trees here)
    (subst (λ cs. MakeAirings cs (aired_rows_in trees)) (ap channels_in to4.trees ∙ (listed.are ∙ search rules))
    (airings_kept v trees here)))

pub returns-in_err-aired-clause-reads : goal.returns-in_err-aired-clause-reads
returns-in_err-aired-clause-reads g c =
    reads_failed g.S.Store _ _ _ _ c.from_residual-in_err-aired.ensures.0
    (reads_then g.S.Store _ _ _ _ _ c.in_ok-channels.ensures.reads
    (reads_then g.S.Store _ _ _ _ _ c.in_ok-tapes.ensures.reads
    (reads_then g.S.Store _ _ _ _ _ c.in_ok-clips.ensures.reads
    (reads_then g.S.Store _ _ _ _ _ c.in_ok-offers.ensures.reads
    (reads_then g.S.Store _ _ _ _ _ c.in_ok-days.ensures.reads c.all_made_airings.ensures.reads)))))

pub returns-clause-reads : goal.returns-clause-reads
returns-clause-reads g c =
    reads_on g.S.Store _ _ _ _
    (reads_then g.S.Store _ _ _ _ _ c.in_ok-channels.ensures.reads
    (reads_then g.S.Store _ _ _ _ _ c.in_ok-tapes.ensures.reads
    (reads_then g.S.Store _ _ _ _ _ c.in_ok-clips.ensures.reads
    (reads_then g.S.Store _ _ _ _ _ c.in_ok-offers.ensures.reads
    (reads_then g.S.Store _ _ _ _ _ c.in_ok-days.ensures.reads c.in_ok-aired.ensures.reads)))))

pub returns-clause-set : goal.returns-clause-set
returns-clause-set g c has clean =
    let v = c.args.version in
    let old = inside g.S.Store c.args.tx.now in
    let before : HasCleanDisk (inside g.S.Store c.all_made_days.new.tx) =
    omega (arith, clean, c.all_made_airings.ensures.reads.survives.clean) in
    let b4 = back g.S.Store v _ _ _ c.in_ok-days.ensures.reads before in
    let b3 = back g.S.Store v _ _ _ c.in_ok-offers.ensures.reads b4.clean in
    let b2 = back g.S.Store v _ _ _ c.in_ok-clips.ensures.reads b3.clean in
    let b1 = back g.S.Store v _ _ _ c.in_ok-tapes.ensures.reads b2.clean in
    let b0 = back g.S.Store v _ _ _ c.in_ok-channels.ensures.reads b1.clean in
    let to1 = back_then g.S.Store v _ _ _ b0 b1 in
    let to2 = back_then g.S.Store v _ _ _ to1 b2 in
    let to3 = back_then g.S.Store v _ _ _ to2 b3 in
    let to4 = back_then g.S.Store v _ _ _ to3 b4 in
    let known = known_of v old has in
    let channels = c.in_ok-channels.ensures.list known b1.clean in
    let tapes =
    subst (HoldsRows tape_table c.in_ok-tapes.tapes.items) b0.trees
    (c.in_ok-tapes.ensures.list (b0.known known) b2.clean) in
    let clips =
    subst (HoldsRows clip_table c.in_ok-clips.clips.items) to1.trees
    (c.in_ok-clips.ensures.list (to1.known known) b3.clean) in
    let offers =
    subst (MadeOffers v c.in_ok-offers.offers.items) to2.trees
    (c.in_ok-offers.ensures.offers (to2.has has) b4.clean) in
    let days =
    subst (MadeDays c.deref.result.now c.in_ok-days.days.items) to3.trees
    (c.in_ok-days.ensures.days (to3.known known) before) in
    let aired =
    subst (MadeAirings c.deref-2.result.now c.in_ok-aired.aired.items) to4.trees
    (c.in_ok-aired.ensures.airings (to4.known known) clean) in
    read_whole v old.now.trees c.in_ok-channels.channels.items c.in_ok-tapes.tapes.items c.in_ok-clips.clips.items
    c.in_ok-offers.offers.items c.in_ok-days.days.items c.in_ok-aired.aired.items
    channels tapes clips offers
    (subst (λ cs. MadeDays cs c.in_ok-days.days.items old.now.trees) c.deref.ensures.value days)
    (subst (λ cs. MadeAirings cs c.in_ok-aired.aired.items old.now.trees) c.deref-2.ensures.value aired)

pub returns-clause-missing : goal.returns-clause-missing
returns-clause-missing g c first clean =
    let v = c.args.version in
    let between : HasCleanDisk (inside g.S.Store c.all_made_days.new.tx) =
    omega (arith, clean, c.all_made_airings.ensures.reads.survives.clean) in
    let after : HasCleanDisk (inside g.S.Store c.all_made_offers.new.tx) =
    omega (arith, between, c.all_made_days.ensures.reads.survives.clean) in
    let b3 = back g.S.Store v _ _ _ c.in_ok-offers.ensures.reads after in
    let b2 = back g.S.Store v _ _ _ c.in_ok-clips.ensures.reads b3.clean in
    let b1 = back g.S.Store v _ _ _ c.in_ok-tapes.ensures.reads b2.clean in
    let b0 = back g.S.Store v _ _ _ c.in_ok-channels.ensures.reads b1.clean in
    c.in_ok-offers.ensures.missing (b2.first (b1.first (b0.first first))) after

pub returns-clause-plan : goal.returns-clause-plan
returns-clause-plan g c known clean =
    let v = c.args.version in
    let before : HasCleanDisk (inside g.S.Store c.all_made_days.new.tx) =
    omega (arith, clean, c.all_made_airings.ensures.reads.survives.clean) in
    let b4 = back g.S.Store v _ _ _ c.in_ok-days.ensures.reads before in
    let b3 = back g.S.Store v _ _ _ c.in_ok-offers.ensures.reads b4.clean in
    let b2 = back g.S.Store v _ _ _ c.in_ok-clips.ensures.reads b3.clean in
    let b1 = back g.S.Store v _ _ _ c.in_ok-tapes.ensures.reads b2.clean in
    let channels = c.in_ok-channels.ensures.list known b1.clean in
    sym channels.are
