use Rattle.std.proofs.Common.{◌∙◌, ℕ, sym, ap, take, arith}
use Rattle.conf_eval.specs.Satisfying.{objective}
use Rattle.form_build.proofs.Growth.{defines_more, no_less, world_before}
use Rattle.ground_model.proofs.KnownCells.{known_still, fixed_still}
use Rattle.ground_model.proofs.goals.goal_variable.Goals as goal

pub objective_variable-requires-clause-cells : goal.objective_variable-requires-clause-cells
objective_variable-requires-clause-cells c = c.requires.known.cells

pub add_rows-requires-clause-known : goal.add_rows-requires-clause-known
add_rows-requires-clause-known c = known_still c.args.objects.now c.args.known.now c.args.maker.now c.objective_variable.new.maker c.in_ok-x.ensures.adds.grows c.requires.known

pub add_rows-requires-clause-fixed : goal.add_rows-requires-clause-fixed
add_rows-requires-clause-fixed c = fixed_still c.args.known.now c.args.maker.now c.objective_variable.new.maker c.in_ok-x.ensures.adds.grows c.requires.fixed

pub returns-in_ok-add_rows-clause-exists : goal.returns-in_ok-add_rows-clause-exists
returns-in_ok-add_rows-clause-exists c =
    let less = no_less c.objective_variable.new.maker c.add_rows.new.maker c.in_ok-add_rows.ensures.adds.grows in
    omega (arith, less, c.in_ok-x.ensures.exists)

pub returns-in_ok-add_rows-clause-value : goal.returns-in_ok-add_rows-clause-value
returns-in_ok-add_rows-clause-value c a w =
    let grows = c.in_ok-add_rows.ensures.adds.grows in
    c.in_ok-x.ensures.value a (world_before c.objective_variable.new.maker c.add_rows.new.maker a grows w) ∙ ap (λ (k : ℕ). objective c.args.objects.now (take k a) c.args.goal.now) (sym grows.search)

pub returns-in_ok-add_rows-clause-adds : goal.returns-in_ok-add_rows-clause-adds
returns-in_ok-add_rows-clause-adds c =
    defines_more c.args.maker.now c.objective_variable.new.maker c.add_rows.new.maker c.in_ok-x.ensures.adds c.in_ok-add_rows.ensures.adds
