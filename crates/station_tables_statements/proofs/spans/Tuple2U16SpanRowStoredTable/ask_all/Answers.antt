-- All rows of the table `span`, by their keys.
use Rattle.std.proofs.Common.{[]}
use Rattle.station_tables_records.proofs.AskLemmas.{all_rows, all_none, all_short}
use Rattle.station_tables_records.proofs.FailLemmas.{fails_short}
use Rattle.station_tables_records.specs.Schema.{centre_schema}
use Rattle.station_tables_records.specs.SpanRows.{span_table, span_fits}
use Rattle.station_tables_records.proofs.Texts.{spans_text, span_columns, by_pair}
use Rattle.station_tables_records.proofs.SpanTextLemmas.{span_texts, never_shown}
use Rattle.station_tables_statements.proofs.AskedLemmas.{never_found}
use Rattle.station_tables_statements.proofs.SpanLemmas.{shows_spans}
use Rattle.station_tables_statements.proofs.spans.Tuple2U16SpanRowStoredTable.ask_all.Goals as goal

pub ask-requires : goal.ask-requires
ask-requires g c = record { reading = span_texts.whole.selects.reads }

pub returns-clause-rows : goal.returns-clause-rows
returns-clause-rows g c =
    all_rows g.S.Store _ _ (λ v. v.items) span_table span_fits spans_text [] c.ask.ensures.reads
    (λ ours early held. shows_spans _ _ (ours early held)) c.ask.ensures.some

pub returns-clause-none : goal.returns-clause-none
returns-clause-none g c =
    all_none g.S.Store _ _ (λ v. v.items) span_table span_fits spans_text [] c.ask.ensures.reads
    (λ ours early held. shows_spans _ _ (ours early held)) c.ask.ensures.none

pub returns-clause-short : goal.returns-clause-short
returns-clause-short g c =
    all_short g.S.Store _ _ (λ v. v.items) span_table span_fits spans_text [] c.ask.ensures.reads
    (λ ours early. fails_short _ _ centre_schema spans_text [] 22 [] span_columns by_pair span_texts.whole.selects
    span_texts.whole.fits (ours early)) c.ask.ensures.err

pub returns-clause-missing : goal.returns-clause-missing
returns-clause-missing g c first clean =
    never_found g.S.Store _ _ (λ v. v.items) span_table span_fits spans_text [] c.ask.result c.ask.ensures.reads clean
    (c.ask.ensures.some clean) (c.ask.ensures.none clean) (λ early held. never_shown _ _ (first early held))
