-- Canvases of the program, as what they stand for.
use Rattle.view_drawing.specs.declared.canvas.Canvas.{Canvas}
use Rattle.view_drawing.specs.Canvas.{Sketch}

abbrev pub sketch : Canvas → Sketch
sketch c = record { body = c.body.items; x = c.x; y = c.y; right = c.right }
