-- `row_fields`: the fields of a record of CSV, if it has four.
use Rattle.std.proofs.Common.{rules, arith}
use Rattle.csv.specs.Records.{fields_of}
use Rattle.asrun_match.proofs.FieldLemmas.{none_of, four_of}
use Rattle.asrun_match.proofs.reading.row_fields.Goals as goal

pub returns-in_err-get : goal.returns-in_err-get
returns-in_err-get c =
    none_of (fields_of c.args.csv_record.now) 0 c.from_residual.result (omega arith) (search rules)
    c.in_err-get.ensures.value

pub returns-in_err-get-2 : goal.returns-in_err-get-2
returns-in_err-get-2 c =
    none_of (fields_of c.args.csv_record.now) 1 c.from_residual-in_err-get-2.result (omega arith) (search rules)
    c.in_err-get-2.ensures.value

pub returns-in_err-get-3 : goal.returns-in_err-get-3
returns-in_err-get-3 c =
    none_of (fields_of c.args.csv_record.now) 2 c.from_residual-in_err-get-3.result (omega arith) (search rules)
    c.in_err-get-3.ensures.value

pub returns-in_err-get-4 : goal.returns-in_err-get-4
returns-in_err-get-4 c =
    none_of (fields_of c.args.csv_record.now) 3 c.from_residual-in_err-get-4.result (omega arith) (search rules)
    c.in_err-get-4.ensures.value

pub returns : goal.returns
returns c =
    four_of (fields_of c.args.csv_record.now) c.in_ok-get.field-0.now c.in_ok-get-2.field-0.now
    c.in_ok-get-3.field-0.now c.in_ok-get-4.field-0.now
    (search rules) c.in_ok-get.ensures.value c.in_ok-get-2.ensures.value c.in_ok-get-3.ensures.value
    c.in_ok-get-4.ensures.value
