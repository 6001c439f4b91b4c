use Rattle.std.proofs.Common.{◌<◌, length, arith}
use Rattle.ground_form.specs.Meaning.{vars_of}
use Rattle.box_rules.proofs.VarWalks.{empty_next}
use Rattle.box_rules.proofs.emptiness.has_empty.Goals as goal

pub returns-then-is_empty_at : goal.returns-then-is_empty_at
returns-then-is_empty_at g c =
    let there : c.loop-i.i < length (vars_of c.args.con.now) = let lt = c.loop-i-test.true in let count = c.variable_count-i-end.ensures in omega (arith, lt, count) in
    let next = empty_next (vars_of c.args.con.now) (g.V.View.boxes c.args.view.now) c.loop-i.i c.is_empty_at.result there c.is_empty_at.ensures in
    let is = c.if-is_empty_at.true in let whole = c.loop-i.invariant in grind arith

pub loop-i-preserved : goal.loop-i-preserved
loop-i-preserved g c =
    let there : c.loop-i.i < length (vars_of c.args.con.now) = let lt = c.loop-i-test.true in let count = c.variable_count-i-end.ensures in omega (arith, lt, count) in
    let next = empty_next (vars_of c.args.con.now) (g.V.View.boxes c.args.view.now) c.loop-i.i c.is_empty_at.result there c.is_empty_at.ensures in
    let is = c.if-is_empty_at.false in let whole = c.loop-i.invariant in grind arith
