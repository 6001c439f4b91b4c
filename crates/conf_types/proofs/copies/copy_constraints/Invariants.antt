use Rattle.std.proofs.Common.{◌≡◌, ◌++◌, map, drop}
use Rattle.conf_types.specs.Programs.{constraint_at}
use Rattle.conf_types.proofs.copies.copy_constraints.Given as goal

-- with what is left it is all of them
abbrev pub invariant-loop-k : goal.invariant-loop-k
invariant-loop-k l =
    let at = constraint_at l.constraints in
    l.found.items ++ map at (drop l.k-index l.keep) ≡ map at l.keep
