use Rattle.std.proofs.Common.{◌≡◌, drop, nat_eq}
use Rattle.std.specs.List.{list_any}
use Rattle.conf_eval.proofs.value.lists.Given as goal

-- none of those before is it
abbrev pub invariant-loop-other : goal.invariant-loop-other
invariant-loop-other l = list_any (nat_eq l.object) (drop l.other-index l.list) ≡ list_any (nat_eq l.object) l.list
