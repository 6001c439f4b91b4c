use Rattle.std.proofs.Common.{◌≡◌, ◌++◌, [], drop, map}
use Rattle.std.specs.List.{flat_map}
use Rattle.csv.specs.Records.{fields_of, partial_of}
use Rattle.view_picture.specs.PictureViews.{holding_seen, load_seen}
use Rattle.view_tables.specs.Cells.{holding_cells, load_cells}
use Rattle.view_tables.proofs.pictures.holding_row.Given as goal

-- the cells so far and those of the loads that are left are all
abbrev pub invariant-loop-load : goal.invariant-loop-load
invariant-loop-load l =
    (partial_of l.row ≡ [])
    × (fields_of l.row ++ flat_map load_cells (map load_seen (drop l.load-index l.holding.loads.items))
    ≡ holding_cells (map (λ w. w.now) l.failed) (holding_seen l.holding))
