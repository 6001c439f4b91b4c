use Rattle.std.proofs.Common.{length, ◌-◌}
use Rattle.conf_parse.proofs.Reading.{IsRead}
use Rattle.conf_parse.proofs.lexer.lex.Given as goal

abbrev pub invariant-loop-at : goal.invariant-loop-at
invariant-loop-at l = IsRead l.text l.tokens.items l.at

abbrev pub decreases-loop-at : goal.decreases-loop-at
decreases-loop-at l = length l.text - l.at
