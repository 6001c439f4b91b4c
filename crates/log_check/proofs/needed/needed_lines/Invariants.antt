use Rattle.std.proofs.Common.{◌≡◌, ◌≤◌, length, take, drop}
use Rattle.log_check.specs.Marks.{clauses_in}
use Rattle.log_check.proofs.Marking.{IsWalked}
use Rattle.log_check.proofs.needed.needed_lines.Given as goal

abbrev pub invariant-loop-k : goal.invariant-loop-k
invariant-loop-k l = record {
  within : l.k ≤ length l.lines;
  walked : IsWalked l.g (drop l.k l.lines) l.marks.items l.needed.items;
  count : length l.marks.items ≡ clauses_in l.g (take l.k l.lines);
}

abbrev pub decreases-loop-k : goal.decreases-loop-k
decreases-loop-k l = l.k
