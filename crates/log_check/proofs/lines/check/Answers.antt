use Rattle.log_check.specs.Progress.{made_of}
use Rattle.log_check.proofs.Fronts.{refused_at, taken_at, verdict_sound}
use Rattle.log_check.proofs.lines.check.Goals as goal

pub returns-then-not-branch-clause-refused : goal.returns-then-not-branch-clause-refused
returns-then-not-branch-clause-refused c =
    refused_at c.args.g.now c.args.lines.now c.loop-k.k c.index-lines-k.result (made_of c.loop-k.progress) c.in_ok-step.field-0 c.loop-k-test.true c.index-lines-k.is
    c.loop-k.invariant.front c.loop-k.invariant.made_is c.in_ok-step.ensures.asked c.if-not-branch.true

pub loop-k-preserved : goal.loop-k-preserved
loop-k-preserved c =
    let said = c.if-not-branch.false in
    let taken = taken_at c.args.g.now c.args.lines.now c.loop-k.k c.index-lines-k.result (made_of c.loop-k.progress) (made_of c.step.new.self) c.in_ok-step.field-0 c.loop-k-test.true c.index-lines-k.is
    c.loop-k.invariant.front c.loop-k.invariant.made_is c.in_ok-step.ensures.asked said (c.in_ok-step.ensures.made said) in
    record { front = taken.0; made_is = taken.1; right = c.in_ok-step.ensures.right said }

pub returns-clause-sound : goal.returns-clause-sound
returns-clause-sound c =
    let right = c.loop-k.invariant.right in
    verdict_sound c.args.g.now (made_of c.loop-k.progress) c.loop-k.progress.derived.closed c.into_verdict.result right.sound right.closed c.into_verdict.ensures
