use Rattle.std.proofs.Common.{codes}
use Rattle.view_drawing.specs.Shapes.{escaped}
use Rattle.view_page.proofs.TextLaws.{three_added}
use Rattle.view_page.proofs.sections.push_boxed.Goals as goal

pub returns : goal.returns
returns c =
    three_added c.args.page.now.items c.extend_from_slice.new.self.items c.push_escaped.new.text.items c.extend_from_slice-2.new.self.items
    (codes "<pre>") (escaped c.args.text.now) (codes "</pre></div>\n")
    c.in_ok-extend_from_slice.ensures.items c.in_ok-push_escaped.ensures.text c.in_ok-extend_from_slice-2.ensures.items
