use Rattle.std.proofs.Common.{◌≡◌, ◌+◌, ℕ, suc, pos, ◌+ℤ◌, length, arith, sym, subst, ◌∙◌}
use Rattle.all_different_pruner.specs.Sweeps.{ArePassed}
use Rattle.all_different_pruner.proofs.Fixpoint.{count_at_most}
use Rattle.all_different_pruner.proofs.Totals.{begun_at_most}
use Rattle.all_different_pruner.proofs.Behind.{passed_step, none_holds, none_map, fixpoint_from}
use Rattle.all_different_pruner.proofs.hall_intervals.pass.Goals as goal

pub with_slot-begun-requires-clause-room : goal.with_slot-begun-requires-clause-room
with_slot-begun-requires-clause-room c =
    let is = c.requires.starts c.loop-d.d c.loop-d-test.true in
    let most = begun_at_most c.args.a.value (c.args.a.value +ℤ pos c.loop-d.d) c.args.vars.now c.args.boxes.now in grind arith

pub with_slot-ended-requires-clause-room : goal.with_slot-ended-requires-clause-room
with_slot-ended-requires-clause-room c =
    let is = c.requires.ends c.loop-d.d c.loop-d-test.true in
    let most = count_at_most c.args.a.value (c.args.a.value +ℤ pos c.loop-d.d) c.args.vars.now c.args.boxes.now in grind arith

pub loop-d-preserved : goal.loop-d-preserved
loop-d-preserved c =
    let d = c.loop-d.d in
    let one : suc d ≡ d + 1 = omega arith in
    let fixpoint = none_holds _ _ _ (sym c.is_some.ensures ∙ c.if-is_some.false) c.judge-found.ensures.none in
    let is = c.requires.ends d c.loop-d-test.true in
    record {
      upto = omega arith;
      begun = grind arith;
      ended = grind arith;
      passed = passed_step c.args.a.value d c.with_slot-ended.result c.loop-d.full c.with_full-full.result c.args.vars.now c.args.boxes.now c.loop-d.invariant.passed fixpoint (c.with_slot-ended.ensures ∙ is) c.with_full-full.ensures;
    }

pub returns-clause-none : goal.returns-clause-none
returns-clause-none c =
    let inv = c.loop-d.invariant in
    let done : c.loop-d.d ≡ length c.args.ends.now = let le = inv.upto in let ge = c.loop-d-test.false in omega arith in
    let passed = subst (λ (z : ℕ). ArePassed c.args.a.value z c.loop-d.full c.args.vars.now c.args.boxes.now) done inv.passed in
    none_map _ _ _ (fixpoint_from c.args.a.value (length c.args.ends.now) c.loop-d.full c.args.vars.now c.args.boxes.now c.requires.sets c.requires.some c.requires.all passed) c.judge_last.ensures.none
