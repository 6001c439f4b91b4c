use Rattle.std.proofs.Common.{◌≡◌, List, ℤ, map, take, length}
use Rattle.std.specs.List.{All}
use Rattle.conf_limits.specs.declared.interval.Interval.{Interval}
use Rattle.form_build.specs.Forms.{linear_at}
use Rattle.form_build.specs.Sums.{IsSum}
use Rattle.form_build.specs.Worlds.{IsWorld, Defines}
use Rattle.quantifier_forms.specs.PartValues.{share}
use Rattle.quantifier_forms.specs.Quantified.{IsPart, share_interval}
use Rattle.quantifier_forms.proofs.shares.shares.Given as goal

abbrev pub invariant-loop-p : goal.invariant-loop-p
invariant-loop-p l = record {
  values : (a : List ℤ) → IsWorld l.maker a → map (λ f. linear_at f a) l.sums.items ≡ map (λ p. share l.kind p a) (take l.p-index l.parts);
  sums : (first : Interval) → All (IsPart l.fn.maker.domains first) l.parts → All (IsSum l.maker.domains (share_interval l.kind first).low (share_interval l.kind first).high) l.sums.items;
  count : length l.sums.items ≡ l.p-index;
  adds : Defines l.fn.maker l.maker;
}
