use Rattle.std.proofs.Common.{sym, subst, List, ℕ, IsTrue}
use Rattle.std.specs.List.{AllByRecursion}
use Rattle.proof_log.specs.Spelling.{step_text, IsStep}
use Rattle.proof_log.proofs.Separated.{no_part, good_part, all_more}
use Rattle.proof_log.proofs.LineReading.{bad_step, no_equals}
use Rattle.proof_log.proofs.reading.steps_of.Goals as goal

pub returns-in_default-step_of-clause-bad : goal.returns-in_default-step_of-clause-bad
returns-in_default-step_of-clause-bad c _ ss ps a b e =
    bad_step c.loop-text.out.items ss ps c.loop-text.left.now _ c.in-Some.text.now c.in-Some.rest.now c.loop-text.invariant.right a b c.loop-text.invariant.text c.in-Some.ensures.some
    (λ h. let wrong = subst IsTrue c.if-is_equals_sign.false (c.is_equals_sign.ensures.1 h) in cc) c.in_default-step_of.ensures.none e

pub loop-text-preserved : goal.loop-text-preserved
loop-text-preserved c =
    let part = c.in-Some.ensures.some in
    let right = c.in-Some-step_of.ensures.some in
    let new = c.in_ok-push.ensures.items in
    record {
      heads = part.heads;
      right = subst (λ (z : List (ℕ × ℕ)). AllByRecursion IsStep z) (sym new) (all_more IsStep c.loop-text.out.items c.in-Some-step_of.s c.loop-text.invariant.right right.0);
      text = good_part 32 step_text c.loop-text.out.items c.push.new.self.items c.in-Some-step_of.s c.loop-text.left.now _ c.in-Some.text.now c.in-Some.rest.now c.loop-text.invariant.text part right.1 new;
    }

pub returns-clause-bad : goal.returns-clause-bad
returns-clause-bad c _ ss ps a b e =
    no_equals c.loop-text.out.items ss ps c.loop-text.left.now _ c.loop-text.invariant.right a b c.loop-text.invariant.text
    (no_part 32 c.loop-text.left.now c.loop-text.invariant.heads c.in_default.ensures.none) e
