use Rattle.std.proofs.Common.{◌≡◌, ◌++◌, drop}
use Rattle.conf_core.specs.Suspects.{is_kept, marked}
use Rattle.conf_core.proofs.suspects.kept_indexes.Given as goal

-- these and those of what is left are all
abbrev pub invariant-loop-k : goal.invariant-loop-k
invariant-loop-k l =
    l.list.items ++ marked is_kept l.k (drop l.k l.suspects) ≡ marked is_kept 0 l.suspects
