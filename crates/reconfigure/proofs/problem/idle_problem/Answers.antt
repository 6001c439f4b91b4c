use Rattle.std.proofs.Common.{All, ◌<◌, length, sym, subst}
use Rattle.ground_form.specs.declared.ground.Ground.{Ground}
use Rattle.ground_form.specs.declared.ground.GroundGoal.{GroundGoal}
use Rattle.reconfigure.proofs.Repaired.{idle_low, idle_is, idle_stands, idle_extends}
use Rattle.reconfigure.proofs.problem.idle_problem.Goals as goal

pub finish-new-requires : goal.finish-new-requires
finish-new-requires c =
    subst (λ (b : Ground). All (λ (goal : GroundGoal). goal.var < length b.domains) c.in_ok-goals.goals) (sym c.over_owned.ensures)
    (idle_low c.args.g c.in_ok-goals.goals c.requires.well_made c.requires.empty c.in_ok-goals.ensures)

pub returns-clause-stands : goal.returns-clause-stands
returns-clause-stands c cells test passes functions count st =
    idle_stands c.args.g c.finish-new.result cells test passes functions count c.requires.empty
    (idle_is c.args.g c.over_owned.result c.finish-new.result c.in_ok-goals.goals c.over_owned.ensures c.in_ok-goals.ensures c.finish-new.ensures.problem)
    c.finish-new.ensures.well_made st

pub returns-clause-extends : goal.returns-clause-extends
returns-clause-extends c =
    idle_extends c.args.g c.finish-new.result
    (idle_is c.args.g c.over_owned.result c.finish-new.result c.in_ok-goals.goals c.over_owned.ensures c.in_ok-goals.ensures c.finish-new.ensures.problem)
