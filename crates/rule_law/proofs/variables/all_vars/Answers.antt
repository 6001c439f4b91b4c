use Rattle.std.proofs.Common.{◌≡◌, ◌++◌, Some, List, ℕ, drop, length, slice_get, subst, sym, ap, ◌∙◌}
use Rattle.ground_form.specs.Meaning.{vars_of}
use Rattle.rule_law.proofs.AllVars.{front_grows}
use Rattle.rule_law.proofs.variables.all_vars.Goals as goal

pub loop-x-preserved : goal.loop-x-preserved
loop-x-preserved c =
    let xs = vars_of c.args.con.now in
    let size = sym c.loop-x.vars.ok.0 in
    let next : slice_get xs (length c.loop-x.vars.items) ≡ Some c.in-Some.x = ap (slice_get xs) (size ∙ sym c.len.ensures) ∙ sym c.variable.ensures ∙ c.in-Some.is in
    subst (λ (out : List ℕ). out ++ drop (length out) xs ≡ xs) (sym c.in_ok-push.ensures.items) (front_grows c.loop-x.vars.items xs c.in-Some.x c.loop-x.invariant next)
