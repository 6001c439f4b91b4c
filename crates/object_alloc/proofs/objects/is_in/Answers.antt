use Rattle.std.proofs.Common.{◌≡◌, ◌+◌, ◌-◌, suc, length, arith, sym, ◌∙◌}
use Rattle.class_table.proofs.AncestryLaws.{derives_step}
use Rattle.object_alloc.specs.Paths.{owner_in}
use Rattle.object_alloc.proofs.objects.is_in.Goals as goal

pub loop-step-preserved : goal.loop-step-preserved
loop-step-preserved c =
    let n = length c.args.objects.now in
    let next : n - c.loop-step._step ≡ suc (n - (c.loop-step._step + 1)) = omega arith in
    let up = sym c.owner_of.ensures.owner ∙ c.in-Some.is in
    record {
      within = c.requires.owners c.loop-step.at c.in-Some.owner up;
      rest = derives_step (owner_in c.args.objects.now) (n - (c.loop-step._step + 1)) (n - c.loop-step._step) c.loop-step.at c.args.whole c.in-Some.owner next c.if-at-whole.false up ∙ c.loop-step.invariant.rest;
    }
