use Rattle.std.proofs.Common.{◌≡◌, ◌++◌, drop, ℕ, Option}
use Rattle.object_alloc.specs.Groups.{numbers_from, is_part_of}
use Rattle.object_alloc.specs.Grouping.{group}
use Rattle.object_alloc.proofs.groups.parts_of_objects.Given as goal

-- with what is left each group is that of all objects
abbrev pub invariant-loop-n : goal.invariant-loop-n
invariant-loop-n l =
    (owner : Option ℕ) (k : ℕ) → group l.groups.entries owner k ++ numbers_from (is_part_of owner k) l.n (drop l.n l.objects) ≡ numbers_from (is_part_of owner k) 0 l.objects
