use Rattle.std.proofs.Common.{◌≡◌, ◌<◌, true, map}
use Rattle.ground_form.specs.declared.kind.Kind.{Kind}
use Rattle.rule_law.specs.Cover.{covers, rank}
use Rattle.rule_law.proofs.kit.first_missing.Given as goal

abbrev pub invariant-loop-n : goal.invariant-loop-n
invariant-loop-n g l = (j : Kind) → rank j < l.n → covers (map (λ p. (goal.Propagator-dyn g (p.vtable, p.value)).handled p.value) l.list) j ≡ true
