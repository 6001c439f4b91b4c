use Rattle.std.proofs.Common.{◌∙◌, ap}
use Rattle.std.specs.Prelude.{option_copied}
use Rattle.confsolve_run.proofs.LogFiles.{same_problem, unchecked}
use Rattle.confsolve_run.proofs.checking.check.Goals as goal

pub returns-in-Err-clause-refused : goal.returns-in-Err-clause-refused
returns-in-Err-clause-refused g c =
    let o = c.args.built.objects.now in
    let ks = c.args.built.model.now.constraints in
    let gs = c.args.built.model.now.goals in
    let r = option_copied c.args.repair in
    let q = c.question_of-question.result in
    let is = c.question_of-question.ensures in
    let problem = same_problem o q.objects.now ks q.model.now.constraints gs q.model.now.goals r (option_copied q.repair) c.in_ok-g.g
    (ap (λ x. x.now) is.objects) (ap (λ x. x.now.constraints) is.model) (ap (λ x. x.now.goals) is.model) (ap (λ x. option_copied x) is.repair) c.in_ok-g.ensures.problem in
    unchecked (g.D.Desk.files c.args.desk.now) c.args.file.now (g.D.Desk.read_faults c.args.desk.now) (g.D.Desk.read_faults c.told_by-told.new.desk) c.in-Err.status o ks gs r c.in_ok-g.g c.keep.new.self c.in-Err.ensures.refused c.keep.ensures.ground (c.keep.ensures.lines ∙ ap (λ j. j.lines) c.requires.empty) problem

pub returns-in-Err-clause-problem : goal.returns-in-Err-clause-problem
returns-in-Err-clause-problem g c = λ of_log.
    record {
      ground = c.in_ok-g.g;
      kept = c.keep.ensures.ground;
      well_made = c.in_ok-g.ensures.problem.stands.well_made;
      alone = c.keep.ensures.lines ∙ ap (λ j. j.lines) c.requires.empty;
    }
