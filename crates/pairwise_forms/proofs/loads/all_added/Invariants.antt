use Rattle.std.proofs.Common.{◌≡◌, List, ℤ, pos, map, take, length}
use Rattle.std.specs.Int.{int_max, int_min}
use Rattle.std.specs.List.{All}
use Rattle.form_build.specs.Forms.{linear_at}
use Rattle.form_build.specs.Sums.{IsSum}
use Rattle.form_build.specs.Worlds.{IsWorld, Defines}
use Rattle.quantifier_forms.specs.Quantified.{IsNarrow}
use Rattle.pairwise_forms.specs.Packing.{size_there, IsPacked}
use Rattle.pairwise_forms.proofs.loads.all_added.Given as goal

abbrev pub invariant-loop-f : goal.invariant-loop-f
invariant-loop-f l = record {
  values : (a : List ℤ) → IsWorld l.maker a → map (λ r. linear_at r a) l.sums.items ≡ map (λ f. size_there l.e f a) (take l.f-index l.items);
  sums : (low high : ℤ) → All (λ f. IsSum l.fn.maker.domains low high f.size) l.items → All (IsSum l.maker.domains (int_min low (pos 0)) (int_max high (pos 0))) l.sums.items;
  count : length l.sums.items ≡ l.f-index;
  item : IsPacked l.maker.domains l.e;
  items : All (IsPacked l.maker.domains) l.items;
  narrow : All (λ f. IsNarrow l.maker.domains f.size) l.items;
  adds : Defines l.fn.maker l.maker;
}
