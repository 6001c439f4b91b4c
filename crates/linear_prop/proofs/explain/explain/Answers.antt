use Rattle.std.proofs.Common.{◌<◌, pos, length, arith}
use Rattle.linear_prop.specs.Rows.{terms_of}
use Rattle.linear_prop.proofs.RowFacts.{turn_of, domain_named, term_moves}
use Rattle.linear_prop.proofs.explain.explain.Goals as goal

pub turn-requires-clause-turn : goal.turn-requires-clause-turn
turn-requires-clause-turn c =
    let n = c.len-i-end.ensures in let t = c.loop-i-test.true in
    let lt : c.loop-i.i < length (terms_of c.args.row.now) = omega arith in
    turn_of (terms_of c.args.row.now) c.args.domains.now c.args.boxes.now c.loop-i.i c.term.result c.requires.over lt (c.term.ensures.term (pos 0, 0))

pub turn-requires-clause-domain : goal.turn-requires-clause-domain
turn-requires-clause-domain c =
    let n = c.len-i-end.ensures in let t = c.loop-i-test.true in
    let lt : c.loop-i.i < length (terms_of c.args.row.now) = omega arith in
    domain_named (terms_of c.args.row.now) c.args.domains.now c.args.boxes.now c.loop-i.i c.term.result c.requires.over lt (c.term.ensures.term (pos 0, 0))

pub turn-requires-clause-fits : goal.turn-requires-clause-fits
turn-requires-clause-fits c =
    let n = c.len-i-end.ensures in let t = c.loop-i-test.true in
    let lt : c.loop-i.i < length (terms_of c.args.row.now) = omega arith in
    term_moves (terms_of c.args.row.now) c.args.domains.now c.args.boxes.now c.loop-i.i c.term.result c.requires.over lt (c.term.ensures.term (pos 0, 0))
