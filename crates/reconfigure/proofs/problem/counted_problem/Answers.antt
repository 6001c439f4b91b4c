use Rattle.std.proofs.Common.{◌≡◌, ◌+◌, ◌≤◌, ◌^◌, ℕ, ℤ, arith, to_z, of_z, w64, subst, sym, ap, ◌∙◌, All, ◌<◌, length}
use Rattle.std.specs.Prelude.{unsigned_abs}
use Rattle.std.proofs.lemmas.Grind.{common_steps}
use Rattle.ground_form.specs.declared.ground.Ground.{Ground}
use Rattle.ground_form.specs.declared.ground.GroundGoal.{GroundGoal}
use Rattle.ground_build.specs.Growing.{with_goals}
use Rattle.reconfigure.proofs.Repaired.{counted_is, counted_low}
use Rattle.reconfigure.proofs.problem.counted_problem.Goals as goal

-- a small number is itself again
kept : (v : ℤ) (n : ℕ) → n + unsigned_abs v ≤ 2 ^ 20 → to_z w64 (of_z w64 v) ≡ v
kept v n h = grind (arith, common_steps)

pub finish-new-requires : goal.finish-new-requires
finish-new-requires c =
    subst (λ (b : Ground). All (λ (goal : GroundGoal). goal.var < length b.domains) c.in_ok-goals.goals) (sym c.into_builder.ensures)
    (counted_low c.args.maker c.sum_variable.new.b c.args.goals.now c.in_ok-goals.goals c.in_ok-x.x c.in_ok-x.ensures.adds.grows c.in_ok-x.ensures.exists c.requires.goals c.in_ok-goals.ensures)

pub returns : goal.returns
returns c =
    counted_is c.args.maker c.sum_variable.new.b c.finish-new.result c.args.count.now c.args.goals.now c.in_ok-goals.goals c.in_ok-x.x c.deref.result.now _ c.deref.ensures.value (kept c.args.count.now.offset _ c.requires.count.few)
    c.in_ok-x.ensures.adds c.in_ok-x.ensures.few c.in_ok-x.ensures.exists c.in_ok-x.ensures.value c.in_ok-goals.ensures
    (c.finish-new.ensures.problem ∙ ap (λ (b : Ground). with_goals b c.in_ok-goals.goals) c.into_builder.ensures) c.finish-new.ensures.well_made
