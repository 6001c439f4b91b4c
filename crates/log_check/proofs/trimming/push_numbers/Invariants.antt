use Rattle.std.proofs.Common.{◌≡◌, ◌≤◌, ◌-◌, ◌++◌, length}
use Rattle.log_check.specs.Trimmed.{next_number, numbers_from}
use Rattle.log_check.proofs.trimming.push_numbers.Given as goal

abbrev pub invariant-loop : goal.invariant-loop
invariant-loop l = record {
  bound : l.at ≤ length l.numbers.items;
  next : next_number l.stays (l.count - l.counter) l.at ≡ next_number l.stays l.count l.fn.next;
  numbers : l.numbers.items ++ numbers_from l.stays (l.count - l.counter) l.at ≡ l.initial.numbers.items ++ numbers_from l.stays l.count l.fn.next;
}
