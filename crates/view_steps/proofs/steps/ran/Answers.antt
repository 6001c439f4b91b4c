use Rattle.view_steps.proofs.steps.ran.Goals as goal

pub returns-clause-kept : goal.returns-clause-kept
returns-clause-kept c = λ site is.
    c.in_ok-arrange.ensures.kept site _
    (c.in_ok-finish.ensures.kept site (c.in_ok-rush.ensures.kept site is))

pub returns-clause-end : goal.returns-clause-end
returns-clause-end c = c.in_ok-arrange.ensures.end _ c.in_ok-finish.ensures.end
