use Rattle.std.proofs.Common.{List, ℤ, [], take}
use Rattle.std.specs.List.{list_all}
use Rattle.object_alloc.specs.Walk.{walk, leaves_in}
use Rattle.ground_expr.specs.Asked.{is_full}
use Rattle.ground_model.specs.Requiring.{Requires}
use Rattle.ground_model.proofs.sets.require_full_sets.Given as goal

-- the sets of the leaves so far are full
abbrev pub invariant-loop-i : goal.invariant-loop-i
invariant-loop-i l =
    Requires [] l.fn.maker l.maker (λ (values : List ℤ). list_all (is_full l.objects values) (take l.i (leaves_in (walk l.objects))))
