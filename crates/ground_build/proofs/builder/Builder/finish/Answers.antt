use Rattle.std.proofs.Common.{arith, subst, sym}
use Rattle.std.proofs.lemmas.Grind.{common_steps}
use Rattle.ground_form.specs.declared.ground.Ground.{Ground}
use Rattle.ground_form.specs.WellMade.{IsWellMade}
use Rattle.ground_build.proofs.Kept.{well_made_goals}
use Rattle.ground_build.proofs.builder.Builder.finish.Goals as goal

pub returns-clause-problem : goal.returns-clause-problem
returns-clause-problem c = grind (arith, common_steps)

pub returns-clause-well_made : goal.returns-clause-well_made
returns-clause-well_made c =
    let built = subst (λ (g : Ground). IsWellMade g) c.self.view_is c.self.invariant in
    let whole = well_made_goals c.args.self c.args.goals built c.requires in
    let same = returns-clause-problem c in
    subst (λ (g : Ground). IsWellMade g) (sym same) whole
