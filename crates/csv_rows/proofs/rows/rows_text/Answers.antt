use Rattle.std.proofs.Common.{[]}
use Rattle.csv_rows.proofs.RowLaws.{all_written}
use Rattle.csv_rows.proofs.rows.rows_text.Goals as goal

pub returns-in-Ok : goal.returns-in-Ok
returns-in-Ok c =
    all_written _ _ c.in-Ok.text (c.in_ok-write_rows.ensures [] c.fresh_writer-writer.ensures) c.in-Ok.ensures.ok
