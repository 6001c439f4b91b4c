use Rattle.std.proofs.Common.{ap, ◌++◌, ◌∙◌, rules}
use Rattle.view_plan.specs.Views.{lines_seen}
use Rattle.view_steps.proofs.TextLaws.{text_done, text_left}
use Rattle.view_steps.proofs.text.steps_text.Goals as goal

pub returns-then-is_empty : goal.returns-then-is_empty
returns-then-is_empty c =
    text_done (lines_seen c.args.run.now.made.items) c.args.run.now.left.items c.in_ok-text.text.items
    c.in_ok-text.ensures (search rules)

pub returns : goal.returns
returns c =
    text_left (lines_seen c.args.run.now.made.items) c.args.run.now.left.items c.in_ok-text.text.items
    c.push_left.new.text.items c.extend_from_slice.new.self.items c.in_ok-lacks.lacks.items
    c.in_ok-text.ensures c.in_ok-push_left.ensures
    (c.in_ok-extend_from_slice.ensures.items
    ∙ ap (λ xs. c.push_left.new.text.items ++ xs) c.deref-2.ensures.value)
    (search rules)
