use Rattle.std.proofs.Common.{◌∙◌, ap, map}
use Rattle.ground_model.specs.Aims.{idle_goal}
use Rattle.ground_model.proofs.Endings.{idle_exist, idle_stands, idle_wholes}
use Rattle.ground_model.proofs.problem.idle_problem.Goals as goal

pub finish-g-requires : goal.finish-g-requires
finish-g-requires c = idle_exist c.args.builder.domains c.in_ok-goals.goals c.args.model.now.goals c.requires.empty (c.in_ok-goals.ensures ∙ ap (map idle_goal) c.goals.ensures.goals)

pub returns : goal.returns
returns c = record {
  stands = λ test asked count. idle_stands c.args.builder.domains c.args.builder c.finish-g.result c.in_ok-goals.goals c.args.model.now.goals test asked c.requires.empty c.requires.cells c.finish-g.ensures.problem (c.in_ok-goals.ensures ∙ ap (map idle_goal) c.goals.ensures.goals) c.finish-g.ensures.well_made count;
  whole = λ o. idle_wholes o c.args.builder.domains c.args.builder c.finish-g.result c.in_ok-goals.goals c.args.model.now.constraints c.requires.empty c.requires.cells c.finish-g.ensures.problem;
}
