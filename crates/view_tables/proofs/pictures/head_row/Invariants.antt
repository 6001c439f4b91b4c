use Rattle.std.proofs.Common.{◌≡◌, ◌++◌, [], drop, map}
use Rattle.std.specs.List.{flat_map}
use Rattle.csv.specs.Records.{fields_of, partial_of}
use Rattle.view_picture.specs.PictureViews.{size_seen}
use Rattle.view_tables.specs.Cells.{picture_head, size_heads}
use Rattle.view_tables.proofs.pictures.head_row.Given as goal

-- the names so far and those of what is left are all
abbrev pub invariant-loop-size : goal.invariant-loop-size
invariant-loop-size l =
    (partial_of l.row ≡ [])
    × (fields_of l.row ++ flat_map size_heads (map size_seen (drop l.size-index l.sizes))
    ≡ picture_head (map size_seen l.sizes))
