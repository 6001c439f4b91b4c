use Rattle.std.proofs.Common.{◌++◌, map, take, take_all, subst}
use Rattle.std.specs.List.{flat_map}
use Rattle.csv.specs.Records.{fields_of}
use Rattle.csv.specs.Writing.{default_writer, row_text}
use Rattle.csv_rows.proofs.RowLaws.{rows_more}
use Rattle.csv_rows.specs.Rows.{IsWritten}
use Rattle.csv_rows.proofs.rows.write_rows.Goals as goal

pub loop-row-preserved : goal.loop-row-preserved
loop-row-preserved c = λ text is.
    let rows = c.args.rows.now in
    let k = c.loop-row.row-index in
    subst (λ t. IsWritten t c.write_row.new.writer)
    (rows_more (row_text default_writer) fields_of rows k c.row-item.result text c.loop-row-test.true c.row-item.is)
    (c.in_ok-write_row.ensures (text ++ flat_map (row_text default_writer) (map fields_of (take k rows))) (c.loop-row.invariant text is))

pub returns : goal.returns
returns c = λ text is.
    subst (λ rs. IsWritten (text ++ flat_map (row_text default_writer) (map fields_of rs)) c.loop-row.writer)
    (take_all c.loop-row.row-index c.args.rows.now c.loop-row-test.false)
    (c.loop-row.invariant text is)
