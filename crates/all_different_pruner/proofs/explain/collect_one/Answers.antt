use Rattle.std.proofs.Common.{ℕ, List, ◌++◌, ap}
use Rattle.all_different_pruner.specs.Within.{outside}
use Rattle.all_different_pruner.proofs.Taking.{none_needed}
use Rattle.all_different_pruner.proofs.explain.collect_one.Goals as goal

pub returns-then-need-eq0 : goal.returns-then-need-eq0
returns-then-need-eq0 c rest =
    ap (λ (ps : List ℕ). c.args.literals.now.items ++ outside c.args.interval.a.value c.args.interval.b.value ps c.args.subject.domains.now)
    (none_needed c.args.need c.args.interval.a.value c.args.interval.b.value c.args.y rest c.args.subject.boxes.now c.if-need-eq0.true)
