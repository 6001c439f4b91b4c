use Rattle.std.proofs.Common.{◌≡◌, drop}
use Rattle.conf_core.specs.Suspects.{cleared}
use Rattle.conf_core.proofs.suspects.with_cleared.Given as goal

-- with those of what is left all are cleared
abbrev pub invariant-loop-k : goal.invariant-loop-k
invariant-loop-k l = cleared l.new.items (drop l.k-index l.list) ≡ cleared l.suspects l.list
