-- `insert_line`: adds a line of a batch of a channel's day, whose number, from 1, is new in the batch.
use Rattle.std.proofs.Common.{◌≡◌, true, subst, arith}
use Rattle.std.specs.Prelude.{◌^◌, nat_lt}
use Rattle.std.proofs.lemmas.Bool.Decides.{nat_tests}
use Rattle.station_tables_records.proofs.InsideLemmas.{Executed, writes_inside, made_inside}
use Rattle.station_tables_records.specs.declared.aired_rows.AiredLine.{AiredLine}
use Rattle.station_tables_records.proofs.AiredTexts.{insert_line_text}
use Rattle.station_tables_records.specs.LineRows.{line_row}
use Rattle.station_tables_records.proofs.AiredLemmas.{inserts_line}
use Rattle.station_tables_statements.proofs.aired.insert_line.Goals as goal

pub returns : goal.returns
returns g c =
    let row : AiredLine = record { day = c.args.day; batch = c.args.batch; line = c.args.line; row = c.args.row.now } in
    let line_small : nat_lt c.args.line (2 ^ 32) ≡ true = let range = c.ranges.line.fits in
    grind (arith, nat_tests, range) in
    let call : Executed g.S.Store c.args.tx.now c.execute.new.self insert_line_text (line_row (c.args.channel, row))
    c.execute.result =
    subst (λ params. Executed g.S.Store c.args.tx.now c.execute.new.self insert_line_text params c.execute.result)
    c.line_values.ensures
    (record {
      same_reference = c.execute.ensures.same_reference;
      ended = c.execute.ensures.ended;
      runs =
          c.execute.ensures.runs;
      survives = c.execute.ensures.survives;
    }) in record {
      writes = writes_inside _ _ _ _ _ call;
      makes =
          λ fresh airings clean. made_inside _ _ _ _ _ call clean
          (λ early held count ran. inserts_line _ _ (airings early held) (c.args.channel, row) count line_small
          (fresh early held) ran);
    }
