use Rattle.std.proofs.Common.{◌≡◌, ◌++◌, drop, map, option_map}
use Rattle.csv.specs.Records.{fields_of}
use Rattle.serde_json.specs.View.{view}
use Rattle.site_tables.specs.Views.{row_seen}
use Rattle.site_answer.specs.Names.{names_in}
use Rattle.site_answer.specs.Rows.{row_cells}
use Rattle.site_answer.proofs.rows.push_rows.Given as goal

-- what is made and what is left to make are all
abbrev pub invariant-loop-row : goal.invariant-loop-row
invariant-loop-row l =
    map fields_of l.rows.items
    ++ map (row_cells (names_in l.names) (view l.answer) (option_map (λ f. view f.now) l.former))
    (map row_seen (drop l.row-index l.services))
    ≡ map fields_of l.initial.rows.items
    ++ map (row_cells (names_in l.names) (view l.answer) (option_map (λ f. view f.now) l.former))
    (map row_seen l.services)
