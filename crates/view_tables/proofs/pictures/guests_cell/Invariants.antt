use Rattle.std.proofs.Common.{◌≡◌, ◌++◌, false, drop, map}
use Rattle.view_picture.specs.PictureViews.{guest_seen}
use Rattle.view_tables.specs.Cells.{guests_cell}
use Rattle.view_tables.proofs.pictures.guests_cell.Given as goal

-- the guests so far and those that are left are all
abbrev pub invariant-loop-guest : goal.invariant-loop-guest
invariant-loop-guest l =
    l.cell.items ++ guests_cell l.later (map guest_seen (drop l.guest-index l.guests))
    ≡ guests_cell false (map guest_seen l.guests)
