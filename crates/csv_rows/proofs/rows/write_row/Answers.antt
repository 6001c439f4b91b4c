use Rattle.std.proofs.Common.{sym, ◌∙◌}
use Rattle.csv.specs.Records.{fields_of}
use Rattle.csv_rows.proofs.RowLaws.{on_ok, row_written}
use Rattle.csv_rows.proofs.rows.write_row.Goals as goal

pub returns : goal.returns
returns c = λ text is.
    let r = c.write_byte_record-written.result in
    let done = c.write_byte_record-written.ensures in
    let good = sym c.is_err.ensures.value ∙ c.if-is_err.false in
    row_written text (fields_of c.args.row.now) _ _ is (on_ok r _ good done.bytes)
    (on_ok r _ good done.ended) (on_ok r _ good done.clean) (on_ok r _ good done.setup)
