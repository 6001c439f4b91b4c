use Rattle.std.proofs.Common.{◌≡◌, take}
use Rattle.conf_types.proofs.scope.scope_within.Given as goal

-- the variables so far are the first ones
abbrev pub invariant-loop-local : goal.invariant-loop-local
invariant-loop-local l = l.locals.items ≡ take l.local-index l.scope.locals.items
