use Rattle.std.proofs.Common.{take}
use Rattle.ground_expr.specs.Stated.{PushesSome}
use Rattle.ground_expr.proofs.statements.push_failing.Given as goal

-- of the bodies passed each was pushed
abbrev pub invariant-loop-e : goal.invariant-loop-e
invariant-loop-e l = record { pushes : PushesSome l.scene.objects.now l.scene.known.now l.fn.maker l.maker (take l.e-index l.body) l.scene.this l.scene.vars.now l.fn.some l.some }
