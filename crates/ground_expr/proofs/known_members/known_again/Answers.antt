use Rattle.std.proofs.Common.{subst, sym}
use Rattle.form_build.specs.Forms.{HasVariable}
use Rattle.ground_expr.proofs.known_members.known_again.Goals as goal

pub returns-clause-variable : goal.returns-clause-variable
returns-clause-variable c n h = c.known_truth.ensures.variable n (subst (HasVariable n) (sym c.in_ok-again.ensures) h)
