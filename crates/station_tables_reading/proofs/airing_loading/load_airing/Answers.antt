-- `load_airing`: what was aired of the day with this number, 1 to 99,999, of the channel whose plan row this is.
use Rattle.std.proofs.Common.{◌≡◌, filter, length, false, sym, ap, ap₂, ◌∙◌, subst, arith}
use Rattle.std.specs.Vec.{vec_len}
use Rattle.std.specs.Prelude.{◌==◌, if◌then◌else◌, Some, None}
use Rattle.std.proofs.lemmas.List.{length-map}
use Rattle.sqlite.specs.State.{HasCleanDisk}
use Rattle.sqlite.specs.Effect.{Database}
use Rattle.timecode.specs.Counting.{day_length}
use Rattle.station_tables_records.specs.Inside.{inside}
use Rattle.station_tables_records.specs.MadeAirings.{AiredSet, is_batch_of, is_line_in, rows_in_batch, batches_at}
use Rattle.station_tables_records.specs.MadeAirings.{airing_of_rows}
use Rattle.station_tables_records.proofs.AiringLemmas.{airing_of_day}
use Rattle.station_tables_records.specs.TwoTables.{HasBoth, HasBothNow}
use Rattle.station_tables_records.specs.TablePairs.{aired_rows_in, aired_tables}
use Rattle.station_tables_statements.specs.AiredCalls.{airings_in}
use Rattle.station_tables_reading.proofs.airing_loading.load_airing.Goals as goal

pub returns-in-Ok-clause-airing : goal.returns-in-Ok-clause-airing
returns-in-Ok-clause-airing g c held clean =
    let old = inside g.S.Store c.args.tx.now in
    let mid = inside g.S.Store c.load_batch_rows.new.tx in
    let plan = c.args.plan.now in
    let ch = plan.ch in
    let day = c.args.day in
    let frames = day_length plan.rate in
    let rows = airings_in old in
    let clean_mid : HasCleanDisk mid = omega (arith, c.load_line_rows.ensures.reads.survives.clean, clean) in
    let early : HasCleanDisk old = omega (arith, c.load_batch_rows.ensures.reads.survives.clean, clean_mid) in
    let same = c.in_ok-batches.ensures.reads.same clean_mid in
    let rows_same : airings_in mid ≡ rows = ap (λ (d : Database). aired_rows_in d.trees) same.0.now_is in
    let held_mid : HasBothNow aired_tables mid =
    λ early_mid opened. subst (HasBoth aired_tables) (sym same.0.now_is) (held early same.0.was_open) in
    let found = c.in_ok-batches.ensures.batches held clean_mid in
    let lines_are : c.deref-2.result.now ≡ filter (is_line_in ch day) rows.lines =
    c.deref-2.ensures.value ∙ c.in_ok-lines.ensures.lines held_mid clean
    ∙ ap (λ (s : AiredSet). filter (is_line_in ch day) s.lines) rows_same in
    let count : length c.in_ok-batches.batches.items ≡ vec_len c.in_ok-batches.batches = let ok =
    c.in_ok-batches.batches.ok in let len = c.deref.ensures.len in let value = c.deref.ensures.value in
    grind (arith, ok, len, value) in
    let some : (length (batches_at ch day rows) == 0) ≡ false =
    ap (λ m. m == 0)
    (length-map (filter (is_batch_of ch day) rows.batches) (λ b. rows_in_batch ch day b.1.number rows.lines))
    ∙ ap (λ l. length l == 0) (sym found) ∙ ap (λ m. m == 0) count ∙ sym c.is_empty.ensures ∙ c.if-is_empty.false in
    ap Some (c.in-Ok.ensures.airing
    ∙ ap₂ (λ batches lines. airing_of_rows frames ch day (record { batches = batches; lines = lines }))
    (c.deref.ensures.value ∙ found) lines_are
    ∙ airing_of_day frames ch day rows)
    ∙ sym (ap (λ b. if b then None else Some (airing_of_rows frames ch day rows)) some)
