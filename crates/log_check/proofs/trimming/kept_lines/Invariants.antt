use Rattle.std.proofs.Common.{◌≡◌, ◌≤◌, ◌++◌, [], length, drop}
use Rattle.log_check.specs.Trimmed.{trimmed_from}
use Rattle.log_check.specs.Marks.{needs}
use Rattle.log_check.proofs.trimming.kept_lines.Given as goal

abbrev pub invariant-loop-k : goal.invariant-loop-k
invariant-loop-k l = record {
  needed : drop l.k l.needed ≡ needs l.g (length l.numbers.items) (drop l.k l.lines);
  bound : l.next ≤ length l.numbers.items;
  kept : l.kept.items ++ trimmed_from l.g l.numbers.items l.next (drop l.k l.lines) ≡ trimmed_from l.g [] 0 l.lines;
}
