use Rattle.std.proofs.Common.{[]}
use Rattle.form_build.specs.Forms.{truth_at}
use Rattle.form_build.proofs.Growth.{world_before, adds_nothing, defines_more}
use Rattle.form_truths.specs.Disjunctions.{disjunction_at}
use Rattle.quantifier_forms.proofs.CaseLaws.{faults_step, none_yet}
use Rattle.quantifier_forms.proofs.cases.push_faults.Goals as goal

pub loop-body-init : goal.loop-body-init
loop-body-init c = record {
  value = λ a w. none_yet (disjunction_at c.args.d.now a) (truth_at c.args.kept.now a);
  exist = c.requires.exist;
  adds = adds_nothing [] c.args.maker.now;
}

pub loop-body-preserved : goal.loop-body-preserved
loop-body-preserved c =
    let there = c.loop-body.invariant in
    let more = c.in_ok-push_fault.ensures in
    record {
      value = λ a w.
          faults_step c.args.bodies.now c.loop-body.body-index c.body-item.result a (truth_at c.args.kept.now a) (disjunction_at c.args.d.now a) (disjunction_at c.loop-body.d a) (disjunction_at c.push_fault.new.d a)
          c.loop-body-test.true c.body-item.is
          (there.value a (world_before c.loop-body.maker c.push_fault.new.maker a more.adds.grows w)) (more.value a w);
      exist = more.exist;
      adds = defines_more c.args.maker.now c.loop-body.maker c.push_fault.new.maker there.adds more.adds;
    }
