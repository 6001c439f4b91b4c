use Rattle.log_check.specs.Progress.{made_of}
use Rattle.log_check.proofs.Fronts.{verdict_sound}
use Rattle.log_check.proofs.checker.Checker.finish.Goals as goal

pub returns-clause-sound : goal.returns-clause-sound
returns-clause-sound c =
    let fields = c.self.inside in
    let progress = fields.intake.progress in
    let right = c.self.invariant.right c.in_default.is in
    rw (← c.self.view_is) (verdict_sound fields.ground.now (made_of progress) progress.derived.closed c.into_verdict.result right.sound right.closed c.into_verdict.ensures)
