-- Areas of the program, as what they stand for.
use Rattle.view_drawing.specs.declared.shapes.Area.{Area as Drawn}
use Rattle.view_drawing.specs.Shapes.{Area}

abbrev pub area_seen : Drawn → Area
area_seen a = record { x = a.x; y = a.y; width = a.width; height = a.height }
