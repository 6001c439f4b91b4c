use Rattle.std.proofs.Common.{◌≡◌, drop}
use Rattle.std.specs.List.{list_any}
use Rattle.conf_eval.specs.Meaning.{same_value}
use Rattle.conf_eval.proofs.packing.differs.Given as goal

abbrev pub invariant-loop-other : goal.invariant-loop-other
invariant-loop-other l = list_any (same_value l.value) (drop l.other-index l.others) ≡ list_any (same_value l.value) l.others
