use Rattle.std.proofs.Common.{◌≡◌, [], ◌∷◌, ◌++◌, map, option_to_list, sym, ap, ◌∙◌, subst}
use Rattle.std.specs.List.{All}
use Rattle.std.specs.Vec.Iter.{into_iter_items}
use Rattle.serde_json.specs.View.{view}
use Rattle.view_picture.specs.PictureViews.{size_seen}
use Rattle.view_plan.specs.Views.{line_seen, lines_seen}
use Rattle.view_steps.specs.Moves.{moves_among}
use Rattle.view_steps.specs.Views.{move_line, IsSized}
use Rattle.view_steps.proofs.MoveLaws.{move_pushed}
use Rattle.view_steps.proofs.moves.moves_of.Goals as goal

pub loop-line-preserved-in-Continue-branch-3 : goal.loop-line-preserved-in-Continue-branch-3
loop-line-preserved-in-Continue-branch-3 c =
    let m = c.args.measure in
    let a = m.attribute.now in
    let sized = IsSized (view m.whole.now) a (map size_seen m.sizes.now) in
    let line = line_seen c.in-Some.line in
    move_pushed a sized line (lines_seen (into_iter_items c.next.new.self)) _
    c.loop-line.moves.items c.push.new.self.items c.in-Some-2.made c.in_ok-push.ensures.items
    (subst (λ o. map move_line (option_to_list o) ≡ moves_among a (line ∷ [])) c.in-Some-2.is c.in_ok-made.ensures.line)
    (subst (λ o. All sized (option_to_list o)) c.in-Some-2.is c.in_ok-made.ensures.sized)
    (sym (ap (λ ls. map move_line c.loop-line.moves.items ++ moves_among a (lines_seen ls)) c.in-Some.ensures.steps.0)
    ∙ c.loop-line.invariant.0)
    c.loop-line.invariant.1
