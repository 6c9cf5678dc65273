-- `tape_with`: the channel's tape with a barcode, where one is asked for.
use Rattle.std.proofs.Common.{sym, ap, ◌∙◌}
use Rattle.std.specs.Option.{option_and_then}
use Rattle.std.specs.Prelude.{bytes_eq}
use Rattle.channel_view_model.specs.Tables.{of_channel}
use Rattle.station_tables_statements.proofs.AskedLemmas.{found_part}
use Rattle.station_tables_statements.proofs.StatementLemmas.{shows_tape_with}
use Rattle.station_tables_records.proofs.TextLemmas.{tape_texts}
use Rattle.station_tables_records.specs.TapeRows.{is_tape_with}
use Rattle.station_tables_records.specs.Inside.{inside}
use Rattle.station_tables_statements.proofs.FoundLemmas.{first_alone_is}
use Rattle.station_tables_statements.specs.Calls.{set_in}
use Rattle.station_tables_statements.proofs.tapes.tape_with.Goals as goal

pub find_rows-requires : goal.find_rows-requires
find_rows-requires g c = record { reading = tape_texts.with_barcode.reads }

pub returns-clause-tape : goal.returns-clause-tape
returns-clause-tape g c centre clean =
    let found = c.in_ok-tapes.ensures in
    let list =
    found_part g.S.Store _ _ found.reads clean (found.rows clean) c.of_barcode.ensures
    (is_tape_with c.args.channel c.in-Some.barcode)
    (λ early held. shows_tape_with _ _ (centre early held) c.args.channel c.in-Some.barcode) in
    first_alone_is (is_tape_with c.args.channel c.in-Some.barcode) (set_in (inside g.S.Store c.args.tx.now)).tapes
    c.deref.result.now c.first_alone.result c.first_alone.ensures (c.deref.ensures.value ∙ list)
    ∙ sym
    (ap
    (option_and_then
    (λ barcode. (of_channel c.args.channel (set_in (inside g.S.Store c.args.tx.now)).tapes).first
    (λ t. bytes_eq t.barcode barcode))) c.in-Some.is)
