use Rattle.std.proofs.Common.{rules, arith, ◌≡◌, true, false, ℤ, pos, ◌+ℤ◌, ◌≤ℤ◌, ◌<ℤ◌, refl}
use Rattle.std.specs.Prelude.{int_lt}
use Rattle.std.proofs.lemmas.Int.{ints}
use Rattle.element_prop.specs.Elements.{some_offers}
use Rattle.element_prop.proofs.offers.unoffered_between.Goals as goal

-- what holds up to a number, and from it up to another one, holds up to the next one
further : (P : ℤ → Type 0) (first at end next : ℤ) → next ≡ end +ℤ pos 1 → ((v : ℤ) → first ≤ℤ v → v <ℤ at → P v) → ((v : ℤ) → at ≤ℤ v → v ≤ℤ end → P v) → (v : ℤ) → first ≤ℤ v → v <ℤ next → P v
further P first at end next e before here v low high =
    (elim (int_lt v at) as (λ b. int_lt v at ≡ b → P v) [
      | true ↦ λ k. before v low (grind (arith, ints))
      | false ↦ λ k. here v (grind (arith, ints)) (grind (arith, ints))
    ]) refl

pub loop-end-preserved : goal.loop-end-preserved
loop-end-preserved c =
    let less : c.in-Some.end.value <ℤ c.args.last.value = search rules in
    record {
      begun = omega (arith, ints, c.loop-end.invariant.begun, c.in-Some.ensures.order, c.next-at.ensures);
      order = omega (arith, ints, less, c.next-at.ensures);
      offered = further (λ v. some_offers c.args.items.now v c.args.index.now c.args.boxes.now ≡ true) c.args.first.value c.loop-end.at.value c.in-Some.end.value c.next-at.result.value c.next-at.ensures
          c.loop-end.invariant.offered c.in-Some.ensures.some;
    }
