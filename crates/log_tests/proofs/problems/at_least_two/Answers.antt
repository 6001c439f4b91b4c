use Rattle.std.proofs.Common.{◌≡◌, ◌∷◌, [], ℤ, pos, negsuc, List, arith}
use Rattle.std.proofs.lemmas.Grind.{common_steps}
use Rattle.signed_clause.specs.Clauses.{Boxes}
use Rattle.ground_form.specs.declared.con.Con.{Con}
use Rattle.ground_form.specs.declared.con.Con.TheVariants.{LinLe}
use Rattle.ground_form.specs.declared.ground.GroundGoal.{GroundGoal}
use Rattle.log_tests.proofs.OneGoal.{one_goal_is, small, range, downwards}
use Rattle.log_tests.proofs.problems.at_least_two.Goals as goal

pub returns : goal.returns
returns c =
    let domains : c.of-domains.result ≡ range = grind (arith, common_steps) in
    let cons : c.of-cons.result ≡ small ∷ [] = grind (arith, common_steps) in
    let goals : c.of-goals.result ≡ downwards ∷ [] = grind (arith, common_steps) in
    one_goal_is c.of-domains.result c.of-cons.result c.of-goals.result domains cons goals
