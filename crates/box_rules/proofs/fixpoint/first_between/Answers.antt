use Rattle.std.proofs.Common.{◌<ℤ◌, arith}
use Rattle.std.proofs.lemmas.Int.{ints}
use Rattle.box_rules.proofs.QuietLaws.{refutes_step, stopped, gone_on}
use Rattle.box_rules.proofs.fixpoint.first_between.Goals as goal

pub returns-then-does_value_refute-2-clause-none : goal.returns-then-does_value_refute-2-clause-none
returns-then-does_value_refute-2-clause-none c =
    let below : c.loop-last.at.value <ℤ c.args.last.value = grind (arith, ints) in
    let step = refutes_step c.args.con.now c.args.boxes.now c.args.x c.args.last.value c.loop-last.at.value c.next-at.result.value c.does_value_refute-in-loop-last.result _
    c.next-at.ensures below c.does_value_refute-in-loop-last.ensures c.loop-last.invariant.value in
    stopped c.does_value_refute-in-loop-last.result _ _ step c.if-does_value_refute-2.true

pub loop-last-preserved : goal.loop-last-preserved
loop-last-preserved c =
    let below : c.loop-last.at.value <ℤ c.args.last.value = grind (arith, ints) in
    let step = refutes_step c.args.con.now c.args.boxes.now c.args.x c.args.last.value c.loop-last.at.value c.next-at.result.value c.does_value_refute-in-loop-last.result _
    c.next-at.ensures below c.does_value_refute-in-loop-last.ensures c.loop-last.invariant.value in
    record {
      value = gone_on c.does_value_refute-in-loop-last.result _ _ step c.if-does_value_refute-2.false;
      begun = omega (arith, ints, c.next-at.ensures, c.loop-last.invariant.begun);
      order = omega (arith, ints, c.next-at.ensures, below);
    }
