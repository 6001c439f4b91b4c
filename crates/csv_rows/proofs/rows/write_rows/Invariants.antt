use Rattle.std.proofs.Common.{ℕ, List, ◌++◌, take, map}
use Rattle.std.specs.List.{flat_map}
use Rattle.csv.specs.Records.{fields_of}
use Rattle.csv.specs.Writing.{default_writer, row_text}
use Rattle.csv_rows.specs.Rows.{IsWritten}
use Rattle.csv_rows.proofs.rows.write_rows.Given as goal

-- the rows so far were written
abbrev pub invariant-loop-row : goal.invariant-loop-row
invariant-loop-row l =
    (text : List ℕ) → IsWritten text l.initial.writer
    → IsWritten (text ++ flat_map (row_text default_writer) (map fields_of (take l.row-index l.rows))) l.writer
