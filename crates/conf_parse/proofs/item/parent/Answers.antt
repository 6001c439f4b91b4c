use Rattle.std.proofs.Common.{rules, ◌≡◌}
use Rattle.conf_parse.proofs.Items.{parent_part}
use Rattle.conf_parse.proofs.StandingItems.{parent_stands}
use Rattle.conf_parse.proofs.item.parent.Goals as goal

pub returns-in-Some-clause-read : goal.returns-in-Some-clause-read
returns-in-Some-clause-read c =
    let e : c.in_ok-word.word ≡ c.in-Ok.found.0.now = search rules in
    parent_part c.args.is_abstract c.args.name.now.name c.in-Ok.found.0.now c.in_ok-word.word c.in-Ok.found.1 c.args.tokens.now c.in-Some.after.now c.in-Ok.found.2.now c.in-Some.ensures c.in-Ok.ensures e

pub returns-in-Some-clause-places : goal.returns-in-Some-clause-places
returns-in-Some-clause-places c = parent_stands c.in-Ok.found.0.now c.in_ok-word.word c.in-Ok.found.1 c.args.tokens.now c.in-Some.after.now c.in-Ok.found.2.now c.in-Some.ensures c.in-Ok.ensures
