use Rattle.std.proofs.Common.{◌≡◌, drop, map}
use Rattle.site_faults.specs.Known.{are_known}
use Rattle.site_faults.proofs.known.are_known.Given as goal

-- what is left decides
abbrev pub invariant-loop-text : goal.invariant-loop-text
invariant-loop-text l =
    are_known l.known l.column (map (λ t. t.now) (drop l.text-index l.texts))
    ≡ are_known l.known l.column (map (λ t. t.now) l.texts)
