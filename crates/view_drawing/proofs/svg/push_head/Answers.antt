use Rattle.std.proofs.Common.{codes}
use Rattle.view_drawing.specs.Shapes.{points_text}
use Rattle.view_drawing.specs.Svg.{style_text}
use Rattle.view_drawing.proofs.DrawingLaws.{four_written}
use Rattle.view_drawing.proofs.svg.push_head.Goals as goal

pub returns : goal.returns
returns c =
    four_written c.args.text.now.items c.extend_from_slice.new.self.items
    c.push_points.new.text.items c.push_points-2.new.text.items c.push_style.new.text.items
    (codes "<svg xmlns=\"http://www.w3.org/2000/svg\"") (points_text (codes " width=\"") c.args.width)
    (points_text (codes " height=\"") c.args.height) style_text
    c.in_ok-extend_from_slice.ensures.items c.in_ok-push_points.ensures
    c.in_ok-push_points-2.ensures c.in_ok-push_style.ensures
