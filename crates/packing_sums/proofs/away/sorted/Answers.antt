use Rattle.std.proofs.Common.{◌≡◌, ℕ, false, pos}
use Rattle.std.specs.Ordering.{int_eq}
use Rattle.std.proofs.lemmas.List.Sorted.{All-permutation}
use Rattle.ground_form.specs.Meaning.{value_of}
use Rattle.packing_sums.proofs.away.sorted.Goals as goal

pub returns : goal.returns
returns c bin a h = All-permutation (λ (x : ℕ). int_eq (value_of a x) (pos bin) ≡ false) _ _ c.sort_unstable.ensures.permutation h
