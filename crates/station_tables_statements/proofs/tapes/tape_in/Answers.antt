-- `tape_in`: the channel's tape in a slot, where one is asked for.
use Rattle.std.proofs.Common.{sym, ap, ◌∙◌}
use Rattle.std.specs.Option.{option_and_then}
use Rattle.vault_core.specs.Tape.{stands_in}
use Rattle.channel_view_model.specs.Tables.{of_channel}
use Rattle.station_tables_statements.proofs.AskedLemmas.{found_part}
use Rattle.station_tables_statements.proofs.StatementLemmas.{shows_tape_in}
use Rattle.station_tables_records.proofs.TextLemmas.{tape_texts}
use Rattle.station_tables_records.specs.TapeRows.{is_tape_in}
use Rattle.station_tables_records.specs.Inside.{inside}
use Rattle.station_tables_statements.proofs.FoundLemmas.{first_alone_is}
use Rattle.station_tables_statements.specs.Calls.{set_in}
use Rattle.station_tables_statements.proofs.tapes.tape_in.Goals as goal

pub find_rows-requires : goal.find_rows-requires
find_rows-requires g c = record { reading = tape_texts.in_slot.reads }

pub returns-clause-tape : goal.returns-clause-tape
returns-clause-tape g c centre clean =
    let found = c.in_ok-tapes.ensures in
    let list =
    found_part g.S.Store _ _ found.reads clean (found.rows clean) c.of_number.ensures
    (is_tape_in c.args.channel c.in-Some.slot)
    (λ early held. shows_tape_in _ _ (centre early held) c.args.channel c.in-Some.slot) in
    first_alone_is (is_tape_in c.args.channel c.in-Some.slot) (set_in (inside g.S.Store c.args.tx.now)).tapes
    c.deref.result.now c.first_alone.result c.first_alone.ensures (c.deref.ensures.value ∙ list)
    ∙ sym
    (ap
    (option_and_then
    (λ slot. (of_channel c.args.channel (set_in (inside g.S.Store c.args.tx.now)).tapes).first
    (λ t. stands_in slot t.slot))) c.in-Some.is)
