use Rattle.std.proofs.Common.{◌≡◌, ◌++◌, drop}
use Rattle.all_different_pruner.specs.Within.{within, outside}
use Rattle.all_different_pruner.proofs.explain.collect.Given as goal

abbrev pub invariant-loop-y : goal.invariant-loop-y
invariant-loop-y l = l.literals.items ++ outside l.interval.a.value l.interval.b.value (within l.left l.interval.a.value l.interval.b.value (drop l.y-index l.vars) l.subject.boxes.now) l.subject.domains.now
    ≡ l.initial.literals.items ++ outside l.interval.a.value l.interval.b.value (within l.fn.need l.interval.a.value l.interval.b.value l.vars l.subject.boxes.now) l.subject.domains.now
