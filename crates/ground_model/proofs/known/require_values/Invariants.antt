use Rattle.std.proofs.Common.{[], List, ℤ, take}
use Rattle.ground_model.specs.Known.{have_values}
use Rattle.ground_model.specs.Requiring.{Requires}
use Rattle.ground_model.proofs.known.require_values.Given as goal

-- the cells so far have their values
abbrev pub invariant-loop-k : goal.invariant-loop-k
invariant-loop-k l = Requires [] l.fn.maker l.maker (λ (values : List ℤ). have_values values (take l.k-index l.known))
