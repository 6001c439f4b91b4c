use Rattle.std.proofs.Common.{◌≡◌, ◌++◌, drop}
use Rattle.conf_core.specs.Suspects.{is_unsure, marked}
use Rattle.conf_core.proofs.suspects.unsure_indexes.Given as goal

-- these and those of what is left are all
abbrev pub invariant-loop-k : goal.invariant-loop-k
invariant-loop-k l =
    l.list.items ++ marked is_unsure l.k (drop l.k l.suspects) ≡ marked is_unsure 0 l.suspects
