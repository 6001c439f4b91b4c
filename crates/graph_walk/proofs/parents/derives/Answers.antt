use Rattle.std.proofs.Common.{◌≡◌, ◌+◌, ◌-◌, suc, arith, sym, ◌∙◌}
use Rattle.graph_walk.proofs.AncestorLaws.{derives_step}
use Rattle.graph_walk.proofs.parents.derives.Goals as goal

pub loop-step-preserved : goal.loop-step-preserved
loop-step-preserved g c =
    let n = g.P.Parents.size c.args.family.now in
    let next : n - c.loop-step._step ≡ suc (n - (c.loop-step._step + 1)) = omega arith in
    let up = sym c.parent.ensures ∙ c.in-Some.is in
    record {
      within = c.requires.parents c.loop-step.at c.in-Some.parent up;
      rest = derives_step (g.P.Parents.up c.args.family.now) (n - (c.loop-step._step + 1)) (n - c.loop-step._step) c.loop-step.at c.args.d c.in-Some.parent next c.if-at-d.false up ∙ c.loop-step.invariant.rest;
    }
