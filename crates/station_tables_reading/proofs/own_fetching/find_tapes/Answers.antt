-- `find_tapes`: the rows and counts of the channel's tapes that answer what is asked.
use Rattle.std.specs.Option.{option_and_then}
use Rattle.std.specs.Prelude.{◌≡◌, bytes_eq}
use Rattle.vault_core.specs.Tape.{stands_in}
use Rattle.channel_view_model.specs.Tables.{of_channel}
use Rattle.station_tables_statements.proofs.LookLemmas.{looks_then, looks_on, looks_err, was_clean, set_before}
use Rattle.station_tables_reading.proofs.own_fetching.find_tapes.Goals as goal

pub returns-in_err-in_slot-clause-looks : goal.returns-in_err-in_slot-clause-looks
returns-in_err-in_slot-clause-looks g c =
    looks_err g.S.Store _ _ _ c.from_residual-in_err-in_slot.result c.from_residual-in_err-in_slot.ensures.0
    (looks_then g.S.Store _ _ _ _ _ c.in_ok-count.ensures.looks
    (looks_then g.S.Store _ _ _ _ _ c.in_ok-with_barcode.ensures.looks c.in_err-in_slot.ensures.looks))

pub returns-clause-looks : goal.returns-clause-looks
returns-clause-looks g c =
    looks_on g.S.Store _ _ _ _
    (looks_then g.S.Store _ _ _ _ _ c.in_ok-count.ensures.looks
    (looks_then g.S.Store _ _ _ _ _ c.in_ok-with_barcode.ensures.looks c.in_ok-in_slot.ensures.looks))

pub returns-clause-found : goal.returns-clause-found
returns-clause-found g c centre clean numbered =
    let s = g.S.Store in
    let ch = c.args.channel in
    let asked = c.args.asked.now in
    let clean2 = was_clean s _ _ _ c.in_ok-in_slot.ensures.looks clean in
    let clean1 = was_clean s _ _ _ c.in_ok-with_barcode.ensures.looks clean2 in
    let one = c.in_ok-count.ensures.looks in
    let both = looks_then s _ _ _ _ _ one c.in_ok-with_barcode.ensures.looks in
    record {
      count = c.in_ok-count.ensures.count centre clean1 numbered;
      with_number = c.in_ok-count.ensures.row centre clean1;
      with_barcode =
          set_before s _ _ _ _ _ one c.in_ok-with_barcode.ensures.looks
          (λ set. c.in_ok-with_barcode.with_barcode
          ≡ option_and_then (λ barcode. (of_channel ch set.tapes).first (λ t. bytes_eq t.barcode barcode))
          asked.barcode) c.in_ok-with_barcode.ensures.tape centre clean2;
      in_slot =
          set_before s _ _ _ _ _ both c.in_ok-in_slot.ensures.looks
          (λ set. c.in_ok-in_slot.in_slot
          ≡ option_and_then (λ slot. (of_channel ch set.tapes).first (λ t. stands_in slot t.slot)) asked.slot)
          c.in_ok-in_slot.ensures.tape centre clean;
    }
