-- `write_seen`: writes it where the channel is in the plan, and says whether it is.
use Rattle.std.proofs.Common.{rules as common, ℕ, List, true, Option, is_some, sym, ap, ◌∙◌, subst}
use Rattle.std.specs.Io.KnownBytes.{Appends}
use Rattle.report_texts.specs.Output.{AppendsPart}
use Rattle.report_texts.proofs.PartLemmas.{nothing_yet}
use Rattle.report_texts.proofs.LineLemmas.{on_err}
use Rattle.channel_view_model.specs.declared.view.View.{View}
use Rattle.channel_view_model.specs.TableText.{table_text, text_at}
use Rattle.station_tables_records.specs.Inside.{inside}
use Rattle.station_tables_statements.specs.Calls.{set_in}
use Rattle.station_tables_statements.proofs.LookLemmas.{look_after, read_is_look}
use Rattle.station_tables_records.proofs.InsideLemmas.{reads_on}
use Rattle.station_tables_reading.proofs.PageTextLemmas.{seen_then}
use Rattle.station_tables_reading.proofs.SeenLemmas.{seen_of, seen_of_none}
use Rattle.station_tables_reading.proofs.table_writing.write_seen.Goals as goal

pub returns-in_default-clause-there : goal.returns-in_default-clause-there
returns-in_default-clause-there g c centre clean known =
    ap (λ (v : Option View). is_some v)
    (seen_of_none c.args.channel (set_in (inside g.S.Store c.args.tx.now))
    (sym (known ∙ c.in_default.is)))

pub returns-in_default-clause-ok : goal.returns-in_default-clause-ok
returns-in_default-clause-ok g c centre clean known holds =
    let before = g.W.Write.contents c.args.output.now in
    subst (λ (v : Option View). Appends before before (text_at c.args.table v))
    (seen_of_none c.args.channel (set_in (inside g.S.Store c.args.tx.now))
    (sym (known ∙ c.in_default.is))) (nothing_yet before)

pub returns-in_err-write_own-clause-reads : goal.returns-in_err-write_own-clause-reads
returns-in_err-write_own-clause-reads g c =
    let read = look_after g.S.Store _ _ _ _ _ c.in_ok-test_open.ensures.reads c.in_err-write_own.ensures.looks in
    search common

pub returns-in_err-write_own-clause-err : goal.returns-in_err-write_own-clause-err
returns-in_err-write_own-clause-err g c centre clean known holds =
    let ch = c.args.channel in
    let part =
    λ (text : List ℕ). AppendsPart (g.W.Write.contents c.args.output.now)
    (g.W.Write.contents c.write_own.new.output) text in
    let there = sym (known ∙ c.in-Some.is) in
    on_err c.from_residual-in_err-write_own.result
    (subst (λ v. part (text_at c.args.table v)) (seen_of ch _ c.in-Some.plan there)
    (seen_then g.S.Store _ _ _ _ _ (read_is_look g.S.Store _ _ _ c.in_ok-test_open.ensures.reads)
    c.in_err-write_own.ensures.looks ch c.in-Some.plan
    (λ _. Unit {0}) (λ v. part (table_text c.args.table v)) (λ v. part (table_text c.args.table v))
    (λ v _ written. written) (λ _ _ _ _. tt) c.in_err-write_own.ensures.written centre clean holds there))

pub returns-clause-reads : goal.returns-clause-reads
returns-clause-reads g c =
    reads_on g.S.Store _ _ tt true
    (look_after g.S.Store _ _ _ _ _ c.in_ok-test_open.ensures.reads c.in_ok-write_own.ensures.looks)

pub returns-clause-there : goal.returns-clause-there
returns-clause-there g c centre clean known =
    ap (λ (v : Option View). is_some v)
    (seen_of c.args.channel (set_in (inside g.S.Store c.args.tx.now)) c.in-Some.plan
    (sym (known ∙ c.in-Some.is)))

pub returns-clause-ok : goal.returns-clause-ok
returns-clause-ok g c centre clean known holds =
    let ch = c.args.channel in
    let whole =
    λ (text : List ℕ). Appends (g.W.Write.contents c.args.output.now) (g.W.Write.contents c.write_own.new.output)
    text in
    let there = sym (known ∙ c.in-Some.is) in
    subst (λ v. whole (text_at c.args.table v)) (seen_of ch _ c.in-Some.plan there)
    (seen_then g.S.Store _ _ _ _ _ (read_is_look g.S.Store _ _ _ c.in_ok-test_open.ensures.reads)
    c.in_ok-write_own.ensures.looks ch c.in-Some.plan
    (λ _. Unit {0}) (λ v. whole (table_text c.args.table v)) (λ v. whole (table_text c.args.table v))
    (λ v _ written. written) (λ _ _ _ _. tt) c.in_ok-write_own.ensures.written centre clean holds there)
