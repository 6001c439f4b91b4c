use Rattle.std.proofs.lemmas.List.Sorted.{All-permutation}
use Rattle.stated_pairs.specs.Apart.{IsApart}
use Rattle.stated_pairs.proofs.reading.sorted.Goals as goal

pub returns : goal.returns
returns c g h = All-permutation (IsApart g) _ _ c.sort_unstable.ensures.permutation h
