use Rattle.std.proofs.Common.{◌≡◌, ◌++◌, drop, map}
use Rattle.csv.specs.Records.{fields_of}
use Rattle.view_picture.specs.PictureViews.{holdings_seen}
use Rattle.view_tables.specs.Cells.{holding_cells}
use Rattle.view_tables.proofs.pictures.push_holdings.Given as goal

-- the rows so far and those of what is left are all
abbrev pub invariant-loop-holding : goal.invariant-loop-holding
invariant-loop-holding l =
    map fields_of l.rows.items
    ++ map (holding_cells (map (λ w. w.now) l.failed)) (holdings_seen (drop l.holding-index l.held))
    ≡ map fields_of l.initial.rows.items
    ++ map (holding_cells (map (λ w. w.now) l.failed)) (holdings_seen l.held)
