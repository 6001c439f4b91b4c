use Rattle.std.proofs.Common.{◌≡◌, All, take}
use Rattle.reference_forms.proofs.picks.is_for_all.Given as goal

abbrev pub invariant-loop-p : goal.invariant-loop-p
invariant-loop-p l = All (λ p. p.1 ≡ l.n) (take l.p-index l.pairs)
