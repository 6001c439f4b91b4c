use Rattle.std.proofs.Common.{◌≡◌, ◌+◌, drop}
use Rattle.ground_form.specs.Bounds.{weight_of}
use Rattle.stated_facts.proofs.weights.weight_of.Given as goal

abbrev pub invariant-loop-t : goal.invariant-loop-t
invariant-loop-t l = l.sum + weight_of (drop l.t-index l.terms) l.boxes ≡ weight_of l.terms l.boxes
