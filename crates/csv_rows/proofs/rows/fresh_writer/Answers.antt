use Rattle.csv_rows.proofs.RowLaws.{none_written}
use Rattle.csv_rows.proofs.rows.fresh_writer.Goals as goal

pub returns : goal.returns
returns c =
    let from = c.from_writer-writer.ensures in
    none_written _ _ from.wtr c.new-bytes.ensures.items from.empty from.cfg from.fields from.wrote
