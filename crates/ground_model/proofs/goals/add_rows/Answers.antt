use Rattle.std.proofs.Common.{None, ◌∙◌, sym, ap, take, arith}
use Rattle.conf_types.specs.Resolved.{ResolvedGoal}
use Rattle.conf_types.specs.TreeOf.{tree_of}
use Rattle.conf_eval.specs.Satisfying.{objective}
use Rattle.form_build.proofs.Growth.{defines_more, no_less}
use Rattle.ground_model.proofs.FormSteps.{known_number, number_linear}
use Rattle.ground_model.proofs.goals.add_rows.Goals as goal

pub add_goal_sums-requires-clause-goal : goal.add_goal_sums-requires-clause-goal
add_goal_sums-requires-clause-goal c =
    let less = no_less c.args.maker.now c.form_of.new.maker c.in_ok-f.ensures.adds.grows in
    omega (arith, less, c.requires.exists)

pub add_goal_sums-requires-clause-number : goal.add_goal_sums-requires-clause-number
add_goal_sums-requires-clause-number c =
    number_linear c.args.objects.now c.args.known.now (tree_of c.goal.inside.expr) None c.in_ok-f.f c.args.maker.now c.form_of.new.maker c.form_of.new.maker c.in_ok-f.ensures.form c.number_of-number.result c.number_of-number.ensures.number

pub add_goal_sums-requires-clause-value : goal.add_goal_sums-requires-clause-value
add_goal_sums-requires-clause-value c =
    known_number c.args.objects.now c.args.known.now (tree_of c.goal.inside.expr) c.in_ok-f.f c.args.maker.now c.form_of.new.maker c.number_of-number.result c.args.x c.in_ok-f.ensures.form c.number_of-number.ensures.number c.in_ok-f.ensures.adds c.requires.fixed
    (λ a w. c.requires.value a w ∙ ap (λ (g : ResolvedGoal). objective c.args.objects.now (take c.args.maker.now.search a) g) (sym c.goal.view_is))

pub returns : goal.returns
returns c = record { adds = defines_more c.args.maker.now c.form_of.new.maker c.add_goal_sums.new.maker c.in_ok-f.ensures.adds c.in_ok-add_goal_sums.ensures.adds }
