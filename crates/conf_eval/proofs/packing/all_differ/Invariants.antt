use Rattle.std.proofs.Common.{◌≡◌, drop}
use Rattle.conf_eval.specs.Meaning.{all_differ}
use Rattle.conf_eval.proofs.packing.all_differ.Given as goal

abbrev pub invariant-loop-i : goal.invariant-loop-i
invariant-loop-i l = all_differ (drop l.i l.values) ≡ all_differ l.values
