use Rattle.std.proofs.Common.{rules}
use Rattle.conf_parse.proofs.Front.{blank_is, comment_is}
use Rattle.conf_parse.proofs.lexer.gap_at.Goals as goal

pub returns-then-is_blank : goal.returns-then-is_blank
returns-then-is_blank c =
    blank_is c.args.text.now c.in_ok-first.first c.in_ok-first.behind.now (search rules) (search rules)

pub returns-then-second-eq47 : goal.returns-then-second-eq47
returns-then-second-eq47 c =
    comment_is c.args.text.now c.in_ok-first.first c.in_ok-second.second c.in_ok-first.behind.now c.in_ok-second.comment.now c.run_length.result (search rules) (search rules) c.if-first-eq47.true c.if-second-eq47.true c.run_length.ensures.within c.run_length.ensures.row c.run_length.ensures.stops
