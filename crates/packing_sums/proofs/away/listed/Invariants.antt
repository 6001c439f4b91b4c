use Rattle.std.proofs.Common.{◌≡◌, ℕ, ℤ, List, false, pos}
use Rattle.std.specs.List.{All}
use Rattle.std.specs.Ordering.{int_eq}
use Rattle.ground_form.specs.Meaning.{value_of}
use Rattle.packing_sums.specs.Hosts.{NoneAt}
use Rattle.packing_sums.proofs.away.listed.Given as goal

abbrev pub invariant-loop-q : goal.invariant-loop-q
invariant-loop-q l =
    (bin : ℕ) (a : List ℤ) → All (λ q. int_eq (value_of a q.0) (pos bin) ≡ false) l.others → NoneAt bin l.vars.items a
