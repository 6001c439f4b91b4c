use Rattle.std.proofs.Common.{◌≡◌, drop}
use Rattle.log_form.specs.Acceptance.{has_empty}
use Rattle.bound_search.proofs.bounding.has_empty.Given as goal

abbrev pub invariant-loop-c : goal.invariant-loop-c
invariant-loop-c l = has_empty (drop l.c-index l.list) ≡ has_empty l.list
