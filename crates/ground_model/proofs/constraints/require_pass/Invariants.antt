use Rattle.std.proofs.Common.{List, ℤ, take}
use Rattle.std.specs.List.{All, list_all}
use Rattle.form_build.specs.Worlds.{AreKnown}
use Rattle.ground_model.specs.Fixing.{holds_in}
use Rattle.ground_model.specs.Requiring.{Requires}
use Rattle.ground_model.specs.WholesStand.{HasWholesIn}
use Rattle.ground_model.proofs.constraints.require_pass.Given as goal

-- the constraints so far hold and stand whole, where they are of the pass
abbrev pub invariant-loop-constraint : goal.invariant-loop-constraint
invariant-loop-constraint l = record {
  says : Requires l.known l.fn.maker l.maker (λ (values : List ℤ). list_all (holds_in l.fixing l.objects values) (take l.constraint-index l.list));
  whole : All (HasWholesIn l.fixing l.objects l.maker (AreKnown l.known)) (take l.constraint-index l.list);
}
