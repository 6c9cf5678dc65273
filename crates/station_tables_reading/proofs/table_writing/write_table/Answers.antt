-- `write_table`: writes a table of the channel, in one transaction, and says whether the channel is in the plan.
use Rattle.std.proofs.Common.{List, ℕ, ap, ◌∙◌, subst, arith, rules}
use Rattle.std.specs.Prelude.{OnErr}
use Rattle.sqlite.specs.State.{HasCleanDisk}
use Rattle.sqlite.specs.Held.{state}
use Rattle.report_texts.specs.Output.{AppendsPart}
use Rattle.report_texts.proofs.LineLemmas.{map_err}
use Rattle.channel_view_model.specs.Centre.{Centre, plan_of, view_of}
use Rattle.channel_view_model.specs.TableText.{text_at}
use Rattle.station_tables_records.specs.Inside.{inside}
use Rattle.station_tables_statements.specs.Rows.{HasSet}
use Rattle.station_tables_reading.proofs.SeenLemmas.{open_or_shut, own_set, rules_kept}
use Rattle.station_tables_reading.proofs.table_writing.write_table.Goals as goal

pub returns-clause-err : goal.returns-clause-err
returns-clause-err g c clean rows stands known =
    let s = g.S.Store in
    let begun = inside s c.transaction-tx.result in
    let done : HasCleanDisk (state s c.drop-tx.new.self.0) = search (rules, clean) in
    let early : HasCleanDisk (inside s c.write_seen.new.tx) = omega (arith, done, c.drop-tx.ensures.survives.clean) in
    let clean_begun : HasCleanDisk begun = omega (arith, early, c.write_seen.ensures.reads.survives.clean) in
    let held : HasSet begun rows = rw c.transaction-tx.ensures.begun (λ fine o. (stands fine o).holds) in
    let text : Centre → List ℕ = λ all. text_at c.args.table (view_of c.args.channel all) in
    let part : Centre → Type 0 =
    λ all. OnErr c.write_seen.result
    (AppendsPart (g.W.Write.contents c.args.output.now) (g.W.Write.contents c.write_seen.new.output) (text all)) in
    open_or_shut begun.is_open
    (λ o. let holds = held clean_begun o in
    subst part holds.rows_are
    (c.write_seen.ensures.err (λ fine opened. (held fine opened).centre) early
    (ap (plan_of c.args.channel) holds.rows_are ∙ known) (own_set begun.now rows holds)))
    (λ shut. map_err c.write_seen.result (λ none. (0, none)) (c.write_seen.ensures.shut early shut))

-- a table is given of rows that keep the rules alone
pub returns-clause-rules : goal.returns-clause-rules
returns-clause-rules g c clean set stands =
    let dropped : HasCleanDisk (state g.S.Store c.drop-tx.new.self.0) = search (rules, clean) in
    let before : HasCleanDisk (inside g.S.Store c.write_seen.new.tx) =
    omega (arith, dropped, c.drop-tx.ensures.survives.clean) in
    rules_kept g.S.Store _ _ _ c.write_seen.result set c.transaction-tx.ensures.begun c.write_seen.ensures.reads before
    stands
