use Rattle.std.proofs.Common.{◌≡◌, drop}
use Rattle.ground_form.specs.Meaning.{vars_of}
use Rattle.box_rules.specs.Quiet.{quiet_at}
use Rattle.box_rules.proofs.fixpoint.are_all_quiet.Given as goal

abbrev pub invariant-loop-i : goal.invariant-loop-i
invariant-loop-i l = quiet_at l.con l.boxes (drop l.i (vars_of l.con)) ≡ quiet_at l.con l.boxes (vars_of l.con)
