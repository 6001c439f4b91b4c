use Rattle.std.proofs.Common.{◌≡◌, true, false, arith, sym, ◌∙◌, subst}
use Rattle.std.proofs.lemmas.Grind.{common_steps}
use Rattle.signed_clause.specs.Ranges.{Ranges}
use Rattle.signed_clause.specs.Clauses.{box_of}
use Rattle.box_rules.specs.Refuted.{lies_in}
use Rattle.all_different_pruner.proofs.SingleLaws.{crowd_of, intruder_of}
use Rattle.all_different_pruner.proofs.single_values.clash_at.Goals as goal

pub returns-then-does_lie_in : goal.returns-then-does_lie_in
returns-then-does_lie_in c =
    let a = c.args.a.value in let boxes = c.args.boxes.now in
    let at : c.index-boxes-y.result ≡ box_of boxes c.args.y = grind (arith, common_steps) in
    let lies = sym c.does_lie_in.ensures ∙ c.if-does_lie_in.true in
    crowd_of a c.args.x c.args.y c.args.vars.now boxes c.requires.rival c.requires.there c.requires.lies
    (subst (λ (s : Ranges). lies_in a a s ≡ true) at lies)

pub returns-else-does_lie_in : goal.returns-else-does_lie_in
returns-else-does_lie_in c =
    let a = c.args.a.value in let boxes = c.args.boxes.now in
    let at : c.index-boxes-y.result ≡ box_of boxes c.args.y = grind (arith, common_steps) in
    let lies = sym c.does_lie_in.ensures ∙ c.if-does_lie_in.false in
    intruder_of a c.args.x c.args.y c.args.vars.now boxes c.requires.sets c.requires.rival c.requires.there c.requires.lies
    (subst (λ (s : Ranges). lies_in a a s ≡ false) at lies)
