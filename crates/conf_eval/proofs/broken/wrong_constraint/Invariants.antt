use Rattle.std.proofs.Common.{◌≡◌, drop}
use Rattle.conf_eval.specs.Finding.{wrong_constraint}
use Rattle.conf_eval.proofs.broken.wrong_constraint.Given as goal

-- those before hold
abbrev pub invariant-loop-i : goal.invariant-loop-i
invariant-loop-i l =
    let o = l.scene.objects.now in
    wrong_constraint o l.scene.values.now l.i (drop l.i l.constraints) ≡ wrong_constraint o l.scene.values.now 0 l.constraints
