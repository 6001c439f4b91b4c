use Rattle.std.proofs.Common.{ℕ, List, [], ℤ, Some, take}
use Rattle.std.specs.List.{All, list_all}
use Rattle.form_build.specs.Worlds.{AreKnown}
use Rattle.ground_expr.specs.Asked.{holds_for}
use Rattle.ground_expr.specs.StandsWhole.{StandsWhole}
use Rattle.ground_model.specs.Requiring.{Requires}
use Rattle.ground_model.proofs.constraints.require_each.Given as goal

-- the constraint holds for the objects so far, and stands whole
abbrev pub invariant-loop-i : goal.invariant-loop-i
invariant-loop-i l = record {
  says : Requires l.known l.fn.maker l.maker (λ (values : List ℤ). list_all (λ n. holds_for l.objects values l.constraint (Some n)) (take l.i l.members));
  whole : All (λ (n : ℕ). StandsWhole l.objects l.maker (AreKnown l.known) l.constraint.tree (Some n) []) (take l.i l.members);
}
