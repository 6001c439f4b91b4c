use Rattle.std.proofs.Common.{rules, ◌≡◌, [], ◌∷◌}
use Rattle.conf_parse.proofs.StandingItems.{lone_stands}
use Rattle.conf_parse.proofs.Wheres.{lone_part}
use Rattle.conf_parse.proofs.statement.lone.Goals as goal

pub returns-clause-read : goal.returns-clause-read
returns-clause-read c =
    let e : c.of.result ≡ c.in-Ok.found.0.tree ∷ [] = search rules in
    lone_part c.args.tokens.now c.args.after.now c.in-Ok.found.1.now c.of.result c.in-Ok.found.0.tree c.requires.key c.requires.brace c.in-Ok.ensures.read e

pub returns-clause-places : goal.returns-clause-places
returns-clause-places c =
    let e : c.of.result ≡ c.in-Ok.found.0.tree ∷ [] = search rules in
    lone_stands c.first_at.result c.of.result c.in-Ok.found.0.tree c.args.tokens.now c.args.after.now c.in-Ok.found.1.now c.requires.key c.in-Ok.ensures.places c.first_at.ensures e
