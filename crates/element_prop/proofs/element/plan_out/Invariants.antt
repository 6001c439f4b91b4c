use Rattle.std.proofs.Common.{◌≡◌, ◌++◌, drop}
use Rattle.element_prop.specs.Elements.{items_plan, out_plan}
use Rattle.element_prop.proofs.element.plan_out.Given as goal

abbrev pub invariant-loop-t : goal.invariant-loop-t
invariant-loop-t l =
    l.plan.items ++ items_plan (drop l.t-index l.items) l.index l.domains l.set ≡ out_plan l.items l.domains l.boxes l.fn.vars.0 l.fn.vars.1 l.set
