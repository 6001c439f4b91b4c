use Rattle.std.proofs.Common.{get_or, refl, sym, ◌∙◌}
use Rattle.all_different_pruner.proofs.Totals.{stands_get}
use Rattle.all_different_pruner.proofs.SingleLaws.{rival_by, no_rival_by, no_rival_step}
use Rattle.all_different_pruner.proofs.single_values.rival_of.Goals as goal

pub returns-then-is_rival-clause-some : goal.returns-then-is_rival-clause-some
returns-then-is_rival-clause-some c =
    rival_by c.args.x c.args.a.value (get_or c.args.vars.now c.loop-y.y-index 0) c.args.vars.now c.args.boxes.now (stands_get c.loop-y.y-index c.args.vars.now c.loop-y-test.true)
    (sym c.is_rival.ensures ∙ c.if-is_rival.true)

pub loop-y-preserved : goal.loop-y-preserved
loop-y-preserved c rest =
    c.loop-y.invariant (no_rival_step c.args.x c.args.a.value c.args.vars.now c.args.boxes.now c.loop-y.y-index (get_or c.args.vars.now c.loop-y.y-index 0) c.loop-y-test.true refl
    (no_rival_by _ _ (sym c.is_rival.ensures ∙ c.if-is_rival.false)) rest)
