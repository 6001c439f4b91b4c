use Rattle.std.proofs.Common.{◌≡◌, drop}
use Rattle.std.specs.List.{list_any}
use Rattle.conf_session.proofs.keeping.has_some.Given as goal

abbrev pub invariant-loop-flag : goal.invariant-loop-flag
invariant-loop-flag l = list_any (λ f. f) (drop l.flag-index l.flags) ≡ list_any (λ f. f) l.flags
