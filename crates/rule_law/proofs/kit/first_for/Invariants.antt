use Rattle.std.proofs.Common.{◌≡◌, ◌-◌, length, map, drop}
use Rattle.rule_law.specs.Cover.{covers}
use Rattle.rule_law.proofs.kit.first_for.Given as goal

abbrev pub invariant-loop-i : goal.invariant-loop-i
invariant-loop-i g l =
    covers (map (λ p. (goal.Propagator-dyn g (p.vtable, p.value)).handled p.value) (drop l.i l.list)) l.kind
    ≡ covers (map (λ p. (goal.Propagator-dyn g (p.vtable, p.value)).handled p.value) l.list) l.kind

abbrev pub decreases-loop-i : goal.decreases-loop-i
decreases-loop-i g l = length l.list - l.i
