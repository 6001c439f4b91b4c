use Rattle.std.proofs.Common.{map, option_map, sym, ap, ◌∙◌}
use Rattle.serde_json.specs.View.{view}
use Rattle.view_leaves.specs.Views.{leaves_seen}
use Rattle.view_picture.specs.PictureViews.{scale_seen, size_seen}
use Rattle.view_plan.specs.Views.{lines_seen}
use Rattle.view_steps.proofs.AnswerLaws.{stepped, moves_sets}
use Rattle.view_steps.proofs.steps.steps_between.Goals as goal

pub returns-then-not-are_plain-clause-refused : goal.returns-then-not-are_plain-clause-refused
returns-then-not-are_plain-clause-refused c =
    moves_sets (view c.args.former.now) (view c.args.measure.whole.now) c.args.measure.attribute.now
    (leaves_seen c.args.old.now) (leaves_seen c.args.new.now)
    (lines_seen c.in_ok-lines.lines.items) c.in_ok-moves.moves.items c.deref.result.now
    c.requires.old c.requires.new c.in_ok-lines.ensures.plan c.in_ok-moves.ensures.lines
    (sym c.are_plain.ensures ∙ c.if-not-are_plain.true) c.deref.ensures.value

pub returns-clause-steps : goal.returns-clause-steps
returns-clause-steps c =
    let m = c.args.measure in
    stepped (view c.args.former.now) (view m.whole.now) m.attribute.now (map size_seen m.sizes.now)
    (option_map (λ v. view v.now) c.args.stop) (leaves_seen c.args.old.now) (leaves_seen c.args.new.now) (lines_seen c.in_ok-lines.lines.items)
    c.in_ok-moves.moves.items c.deref.result.now c.in_ok-start.start c.in_ok-ended.ended
    (map scale_seen c.deref-2.result.now) c.in_ok-text.text.items c.has_left-stuck.result
    c.requires.old c.requires.new c.in_ok-lines.ensures.plan c.requires.before c.requires.behind
    c.in_ok-moves.ensures.lines c.in_ok-moves.ensures.sized (sym c.are_plain.ensures ∙ c.if-not-are_plain.false)
    c.deref.ensures.value
    (ap (map scale_seen) c.deref-2.ensures.value ∙ c.in_ok-scales.ensures)
    c.in_ok-start.ensures.moves c.in_ok-start.ensures.none c.in_ok-start.ensures.rooms
    c.in_ok-ended.ensures.kept c.in_ok-ended.ensures.end c.in_ok-text.ensures
    c.has_left-stuck.ensures
