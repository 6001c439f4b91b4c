use Rattle.std.proofs.Common.{◌≡◌, ◌++◌, drop, map}
use Rattle.std.specs.List.{flat_map}
use Rattle.view_drawing.specs.Sheet.{load_line}
use Rattle.view_picture.specs.PictureViews.{load_seen}
use Rattle.view_drawing.proofs.sheet.push_loads.Given as goal

-- what is written and what is left to write are all
abbrev pub invariant-loop-load : goal.invariant-loop-load
invariant-loop-load l =
    l.text.items ++ flat_map load_line (map load_seen (drop l.load-index l.loads))
    ≡ l.initial.text.items ++ flat_map load_line (map load_seen l.loads)
