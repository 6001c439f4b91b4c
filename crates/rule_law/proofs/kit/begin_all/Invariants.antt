use Rattle.std.proofs.Common.{◌≡◌, ◌-◌, length, map}
use Rattle.rule_law.proofs.kit.begin_all.Given as goal

abbrev pub invariant-loop-i : goal.invariant-loop-i
invariant-loop-i g l =
    map (λ p. (goal.Propagator-dyn g (p.vtable, p.value)).handled p.value) l.list ≡ map (λ p. (goal.Propagator-dyn g (p.vtable, p.value)).handled p.value) l.fn.list

abbrev pub decreases-loop-i : goal.decreases-loop-i
decreases-loop-i g l = length l.list - l.i
