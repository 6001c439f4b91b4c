use Rattle.std.proofs.Common.{◌+◌, ◌≤◌, subst}
use Rattle.run_law.specs.Decisions.{decisions}
use Rattle.model_search.proofs.Sizes.{problem_size}
use Rattle.model_search.proofs.laws.undecided_has_more.Goals as goal

pub returns : goal.returns
returns c =
    let size = problem_size c.args.question.objects.now c.args.question.model.now.constraints c.args.question.model.now.goals _ c.args.g.now c.requires.problem in
    record { more = λ due. subst (λ n. decisions c.args.lines.now + 2 ≤ n) size (c.run_decides_less.ensures.more due) }
