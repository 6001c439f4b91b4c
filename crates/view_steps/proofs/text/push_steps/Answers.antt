use Rattle.std.proofs.Common.{codes, length}
use Rattle.view_plan.specs.Views.{line_seen, lines_seen}
use Rattle.view_steps.proofs.TextLaws.{counted, lines_counted}
use Rattle.view_steps.proofs.text.push_steps.Goals as goal

pub returns : goal.returns
returns c =
    counted (lines_seen c.args.lines.now) (length c.args.lines.now) (codes " steps\n") c.args.text.now.items
    c.push_lines.new.text.items c.push_count.new.text.items (lines_counted line_seen c.args.lines.now)
    c.in_ok-push_lines.ensures c.in_ok-push_count.ensures
