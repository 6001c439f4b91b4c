use Rattle.std.proofs.Common.{rules, ◌≡◌, false}
use Rattle.conf_grammar.specs.Machine.{takes}
use Rattle.conf_parse.proofs.Rowed.{fixed_other}
use Rattle.conf_parse.proofs.row.+fixed.Goals as goal

pub returns-then-not-takes : goal.returns-then-not-takes
returns-then-not-takes t c =
    let f : takes c.in-Some.first c.in-Some-split.token.now.token ≡ false = search rules in
    fixed_other c.args.tokens.now c.args.wanted.now c.in-Some.first c.in-Some.more.now c.in-Some-split.token.now c.in-Some-split.after.now c.in-Some.ensures c.in-Some-split.ensures f
