use Rattle.std.proofs.Common.{◌≡◌, ◌<◌, Bool, ℕ, cond, length, refl, arith, ap, subst, ◌∙◌}
use Rattle.element_prop.specs.Walks.{IsPassed}
use Rattle.element_prop.proofs.WalkLaws.{passed_none, passed_next}
use Rattle.element_prop.proofs.element.walk_over.Goals as goal

pub loop-i-init : goal.loop-i-init
loop-i-init c = record {
  begun = omega arith;
  end = c.requires.order;
  few = omega arith;
  passed = passed_none c.args.items.now c.args.near.from c.args.vars.0 c.args.vars.1 c.args.out.now c.args.index.now c.args.boxes.now;
}

pub loop-i-preserved : goal.loop-i-preserved
loop-i-preserved c =
    let there = c.loop-i.invariant in
    let within : c.loop-i.i < length c.args.items.now = omega (arith, c.loop-i-test.true, c.requires.within) in
    let apart = c.is_still_apart-apart.ensures in
    let one = c.count_one-count.ensures in
    record {
      begun = omega (arith, there.begun);
      end = omega (arith, c.loop-i-test.true);
      few = omega (arith, there.few, one.most);
      passed =
          passed_next c.args.items.now c.args.near.from c.loop-i.i c.args.vars.0 c.args.vars.1 c.args.out.now c.args.index.now c.args.boxes.now c.loop-i.count c.count_one-count.result c.loop-i.apart c.is_still_apart-apart.result c.item_at-t.result
          within c.item_at-t.ensures (c.if-is_item_out.ensures.met refl) (one.value ∙ ap (λ (b : Bool). cond b 1 0) c.is_possible-can.ensures) apart.before apart.out apart.index there.passed;
    }

pub returns : goal.returns
returns c =
    let there = c.loop-i.invariant in
    let at : c.loop-i.i ≡ c.args.near.to = omega (arith, there.end, c.loop-i-test.false) in
    subst (λ (k : ℕ). IsPassed c.args.items.now c.args.near.from k c.args.vars.0 c.args.vars.1 c.args.out.now c.args.index.now c.args.boxes.now c.loop-i.count c.loop-i.apart) at there.passed
