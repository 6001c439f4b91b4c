use Rattle.std.proofs.Common.{◌≡◌, ◌<◌, ℕ, false, nat_eq, length, take, slice_index_or}
use Rattle.std.specs.List.{list_any}
use Rattle.reconfigure.proofs.marks.own_marks.Given as goal

-- those so far are marked
abbrev pub invariant-loop-n : goal.invariant-loop-n
invariant-loop-n l =
    record {
      count : length l.marks.items ≡ l.count;
      marks : (k : ℕ) → k < l.count → slice_index_or l.marks.items k false ≡ list_any (nat_eq k) (take l.n-index l.numbers);
    }
