use Rattle.std.proofs.Common.{ap, codes, ◌∙◌, ◌++◌}
use Rattle.serde_json.specs.View.{view}
use Rattle.view_page.proofs.TextLaws.{two_added}
use Rattle.view_page.specs.Page.{drawn_text}
use Rattle.view_page.specs.PageViews.{wish_seen}
use Rattle.view_page.proofs.sections.push_picture.Goals as goal

pub returns : goal.returns
returns c =
    let drawn = c.deref.ensures.value ∙ c.in_ok-svg.ensures in
    two_added c.args.page.now.items c.extend_from_slice.new.self.items c.extend_from_slice-2.new.self.items
    (drawn_text (wish_seen c.args.wish) (view c.args.whole.now)) (codes "</section>\n")
    (c.in_ok-extend_from_slice.ensures.items ∙ ap (λ xs. c.args.page.now.items ++ xs) drawn) c.in_ok-extend_from_slice-2.ensures.items
