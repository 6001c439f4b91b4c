use Rattle.std.proofs.Common.{arith, sym, ◌∙◌}
use Rattle.std.proofs.lemmas.Bool.Decides.{nat_tests}
use Rattle.all_different_pruner.proofs.Behind.{judged_fixpoint}
use Rattle.all_different_pruner.proofs.hall_intervals.judge.Goals as goal

pub returns-clause-none : goal.returns-clause-none
returns-clause-none c =
    judged_fixpoint c.args.a.value c.args.tally.d c.args.tally.ended c.args.tally.begun c.args.vars.now c.args.boxes.now c.requires.sets c.requires.ended c.requires.begun
    (grind (arith, nat_tests)) (sym c.may_intrude.ensures ∙ c.if-may_intrude.false)
