use Rattle.std.proofs.Common.{ℕ, ℤ, Bool, List, ◌<◌, ◌≤◌, take}
use Rattle.std.specs.List.{All}
use Rattle.packing_sums.specs.Loads.{sizes_where}
use Rattle.goal_rows.proofs.parts.items_among.Given as goal

abbrev pub invariant-loop-s : goal.invariant-loop-s
invariant-loop-s l = record {
  exist : (n : ℕ) → All (λ s. s.0 < n) l.items → All (λ s. s.0 < n) l.out.items;
  fewer : (test : ℤ → Bool) (a : List ℤ) → sizes_where test l.out.items a ≤ sizes_where test (take l.s-index l.items) a;
}
