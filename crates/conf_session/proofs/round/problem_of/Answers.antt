use Rattle.std.proofs.Common.{◌∙◌, ap}
use Rattle.conf_session.specs.Standing.{Standing}
use Rattle.conf_session.proofs.RoundLaws.{repairs_by}
use Rattle.conf_session.proofs.round.problem_of.Goals as goal

pub returns-clause-repairs : goal.returns-clause-repairs
returns-clause-repairs c =
    let s = c.args.state.now in
    repairs_by c.args.objects.now s.ground c.state.inside.ground c.in_ok-g.g s.former c.items-former.result.now s.failed c.deref.result.now (ap (λ (x : Standing). x.ground) c.state.view_is) (c.items-former.ensures.values ∙ ap (λ (x : Standing). x.former) c.state.view_is) (c.deref.ensures.value ∙ ap (λ (x : Standing). x.failed) c.state.view_is) c.in_ok-g.ensures.repairs
