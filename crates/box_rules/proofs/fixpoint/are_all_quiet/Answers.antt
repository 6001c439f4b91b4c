use Rattle.std.proofs.Common.{◌<◌, length, arith}
use Rattle.ground_form.specs.Meaning.{vars_of}
use Rattle.box_rules.proofs.VarWalks.{quiet_next}
use Rattle.box_rules.proofs.fixpoint.are_all_quiet.Goals as goal

pub returns-then-not-is_quiet_at : goal.returns-then-not-is_quiet_at
returns-then-not-is_quiet_at c =
    let there : c.loop-i.i < length (vars_of c.args.con.now) = let lt = c.loop-i-test.true in let count = c.variable_count-i-end.ensures in omega (arith, lt, count) in
    let next = quiet_next c.args.con.now c.args.boxes.now (vars_of c.args.con.now) c.loop-i.i c.is_quiet_at.result there c.is_quiet_at.ensures in
    let is = c.if-not-is_quiet_at.true in let whole = c.loop-i.invariant in grind arith

pub loop-i-preserved : goal.loop-i-preserved
loop-i-preserved c =
    let there : c.loop-i.i < length (vars_of c.args.con.now) = let lt = c.loop-i-test.true in let count = c.variable_count-i-end.ensures in omega (arith, lt, count) in
    let next = quiet_next c.args.con.now c.args.boxes.now (vars_of c.args.con.now) c.loop-i.i c.is_quiet_at.result there c.is_quiet_at.ensures in
    let is = c.if-not-is_quiet_at.false in let whole = c.loop-i.invariant in grind arith
