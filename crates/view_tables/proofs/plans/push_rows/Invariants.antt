use Rattle.std.proofs.Common.{◌≡◌, ◌++◌, drop, false, map}
use Rattle.std.specs.List.{list_any}
use Rattle.csv.specs.Records.{fields_of}
use Rattle.view_plan.specs.Text.{shows_fraction}
use Rattle.view_plan.specs.Views.{lines_seen}
use Rattle.view_tables.specs.Cells.{line_cells}
use Rattle.view_tables.proofs.plans.push_rows.Given as goal

-- where none shows a fraction, none that is left does, and the rows so far and those of what is
-- left are all
abbrev pub invariant-loop-line : goal.invariant-loop-line
invariant-loop-line l =
    list_any shows_fraction (lines_seen l.lines) ≡ false
    → (list_any shows_fraction (lines_seen (drop l.line-index l.lines)) ≡ false)
    × (map fields_of l.rows.items ++ map line_cells (lines_seen (drop l.line-index l.lines))
    ≡ map fields_of l.initial.rows.items ++ map line_cells (lines_seen l.lines))
