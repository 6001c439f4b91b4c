use Rattle.std.proofs.Common.{◌≡◌, ◌+◌, ◌<◌, ◌≤◌, ℕ, length, drop}
use Rattle.std.specs.Prelude.{slice_index}
use Rattle.std.specs.List.{sum_by}
use Rattle.model_limits.specs.Limits.{most_objects}
use Rattle.object_alloc.specs.Sums.{of_kind, kin, IsLawful}
use Rattle.object_alloc.proofs.extents.extent_sizes.Given as goal

-- with the kin among the objects that are left it is the kin among all
abbrev pub invariant-loop-kind : goal.invariant-loop-kind
invariant-loop-kind l =
    record {
      count : length l.sizes.items ≡ length l.table.classes;
      most : (c : ℕ) → slice_index l.sizes.items c ≤ most_objects;
      each : (c : ℕ) → c < length l.table.classes → slice_index l.sizes.items c + sum_by (of_kind (kin l.table c)) (drop l.kind-index l.queue) ≡ sum_by (of_kind (kin l.table c)) l.queue;
      lawful : IsLawful (length l.table.classes) (1 + l.kind-index) (drop l.kind-index l.queue);
    }
