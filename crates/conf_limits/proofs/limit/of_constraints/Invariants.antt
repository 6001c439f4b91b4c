use Rattle.std.proofs.Common.{drop, All}
use Rattle.std.specs.List.{list_all, sum_by}
use Rattle.conf_limits.specs.Counting.{IsTotalling}
use Rattle.conf_limits.specs.Limits.{IsConstraintThere}
use Rattle.conf_limits.specs.Measures.{constraint_weight, constraint_narrow}
use Rattle.conf_limits.proofs.limit.of_constraints.Given as goal

-- with what is left it is that of all
abbrev pub invariant-loop-constraint : goal.invariant-loop-constraint
invariant-loop-constraint l =
    let o = l.objects in
    let left = drop l.constraint-index l.list in
    let all = l.list in
    record {
      there : All (IsConstraintThere o) left;
      total : IsTotalling l.total (sum_by (constraint_weight o) left) (sum_by (constraint_weight o) all) (list_all (constraint_narrow o) left) (list_all (constraint_narrow o) all);
    }
