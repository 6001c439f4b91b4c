use Rattle.std.proofs.Common.{◌≡◌, drop, map}
use Rattle.rule_law.specs.Cover.{covers}
use Rattle.rule_law.proofs.kit.is_covered.Given as goal

abbrev pub invariant-loop-p : goal.invariant-loop-p
invariant-loop-p g l =
    covers (map (λ p. (goal.Propagator-dyn g (p.vtable, p.value)).handled p.value) (drop l.p-index l.list)) l.kind
    ≡ covers (map (λ p. (goal.Propagator-dyn g (p.vtable, p.value)).handled p.value) l.list) l.kind
