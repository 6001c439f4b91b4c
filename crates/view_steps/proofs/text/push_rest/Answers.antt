use Rattle.std.proofs.Common.{codes, length, map}
use Rattle.view_steps.specs.Views.{move_line}
use Rattle.view_steps.proofs.TextLaws.{counted, lines_counted}
use Rattle.view_steps.proofs.text.push_rest.Goals as goal

pub returns : goal.returns
returns c =
    counted (map move_line c.args.moves.now) (length c.args.moves.now) (codes " left\n") c.args.text.now.items
    c.push_moves.new.text.items c.push_count.new.text.items (lines_counted move_line c.args.moves.now)
    c.in_ok-push_moves.ensures c.in_ok-push_count.ensures
