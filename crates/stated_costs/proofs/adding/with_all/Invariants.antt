use Rattle.std.specs.Prelude.{IfSome}
use Rattle.stated_facts.specs.Rows.{IsNought}
use Rattle.stated_costs.proofs.adding.with_all.Given as goal

abbrev pub invariant-loop-s : goal.invariant-loop-s
invariant-loop-s l = IfSome l.last (λ z. IsNought l.maker z)
