use Rattle.std.proofs.Common.{[], sym}
use Rattle.form_build.proofs.Growth.{world_before, adds_nothing, defines_more}
use Rattle.form_truths.specs.Disjunctions.{disjunction_at}
use Rattle.pairwise_forms.proofs.ClashSteps.{or_none, clashes_step, clashes_all}
use Rattle.pairwise_forms.proofs.KeptParts.{member_kept, members_kept}
use Rattle.pairwise_forms.proofs.clashes.push_clashes.Goals as goal

pub loop-f-init : goal.loop-f-init
loop-f-init c = record {
  value = λ a w. sym (or_none (disjunction_at c.args.d.now a));
  exist = c.requires.exist;
  left = c.requires.left;
  right = c.requires.right;
  adds = adds_nothing [] c.args.maker.now;
}

pub loop-f-preserved : goal.loop-f-preserved
loop-f-preserved c =
    let there = c.loop-f.invariant in
    let more = c.in_ok-push_clash.ensures in
    record {
      value = λ a w.
          clashes_step c.args.e.now c.args.others.now c.loop-f.f-index c.f-item.result a (disjunction_at c.args.d.now a) (disjunction_at c.loop-f.d a) (disjunction_at c.push_clash.new.d a)
          c.loop-f-test.true c.f-item.is
          (there.value a (world_before c.loop-f.maker c.push_clash.new.maker a more.adds.grows w)) (more.value a w);
      exist = more.exist;
      left = member_kept c.loop-f.maker c.push_clash.new.maker c.args.e.now more.adds.grows there.left;
      right = members_kept c.loop-f.maker c.push_clash.new.maker c.args.others.now more.adds.grows there.right;
      adds = defines_more c.args.maker.now c.loop-f.maker c.push_clash.new.maker there.adds more.adds;
    }

pub returns-clause-value : goal.returns-clause-value
returns-clause-value c a w =
    clashes_all c.args.e.now c.args.others.now c.loop-f.f-index a (disjunction_at c.args.d.now a) (disjunction_at c.loop-f.d a) c.loop-f-test.false (c.loop-f.invariant.value a w)
