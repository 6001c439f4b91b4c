use Rattle.std.proofs.Common.{codes, ◌++◌}
use Rattle.view_drawing.specs.ShapeViews.{area_seen}
use Rattle.view_drawing.specs.Shapes.{area_text, colour_text}
use Rattle.view_drawing.proofs.DrawingLaws.{five_written}
use Rattle.view_drawing.proofs.shapes.push_box.Goals as goal

pub returns : goal.returns
returns c =
    five_written c.args.text.now.items c.extend_from_slice.new.self.items
    c.push_area.new.text.items c.push_colour.new.text.items c.push_colour-2.new.text.items
    c.extend_from_slice-2.new.self.items (codes "<rect") (area_text (area_seen c.args.area))
    (colour_text (codes " rx=\"3\" fill=\"") c.args.fill.now)
    (colour_text (codes " stroke=\"") c.args.stroke.now) (codes "/>\n")
    c.in_ok-extend_from_slice.ensures.items c.in_ok-push_area.ensures c.in_ok-push_colour.ensures
    c.in_ok-push_colour-2.ensures c.in_ok-extend_from_slice-2.ensures.items
