use Rattle.std.proofs.Common.{◌≡◌, false, take, nat_eq}
use Rattle.std.specs.List.{list_any}
use Rattle.identity_forms.proofs.membership.is_among.Given as goal

-- the object is none of those so far
abbrev pub invariant-loop-m : goal.invariant-loop-m
invariant-loop-m l = list_any (nat_eq l.n) (take l.m-index l.objects) ≡ false
