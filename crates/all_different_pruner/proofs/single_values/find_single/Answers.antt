use Rattle.std.proofs.Common.{◌≡◌, ◌-◌, ◌+◌, ℕ, drop, get_or, arith, refl, sym, subst, ◌∙◌}
use Rattle.all_different_pruner.specs.Intervals.{AreAlone}
use Rattle.all_different_pruner.proofs.Behind.{none_holds}
use Rattle.all_different_pruner.proofs.Totals.{stands_get}
use Rattle.all_different_pruner.proofs.SingleLaws.{alone_step}
use Rattle.all_different_pruner.proofs.single_values.find_single.Goals as goal

pub found_at-found-requires-clause-there : goal.found_at-found-requires-clause-there
found_at-found-requires-clause-there c =
    let within = c.loop-k.invariant.within in let test = c.loop-k-test.true in
    stands_get (c.loop-k.k - 1) c.args.vars.now (omega arith)

pub loop-k-preserved : goal.loop-k-preserved
loop-k-preserved c =
    let vars = c.args.vars.now in let boxes = c.args.boxes.now in let k = c.loop-k.k in
    let within = c.loop-k.invariant.within in let test = c.loop-k-test.true in
    let here = none_holds _ _ _ (sym c.is_some.ensures ∙ c.if-is_some.false) c.found_at-found.ensures.none in
    let back : k - 1 + 1 ≡ k = omega arith in
    let rest = subst (λ (n : ℕ). AreAlone (drop n vars) vars boxes) (sym back) c.loop-k.invariant.alone in
    record { within = omega arith; alone = alone_step vars boxes (k - 1) (get_or vars (k - 1) 0) (omega arith) refl here rest }

pub returns-clause-none : goal.returns-clause-none
returns-clause-none c =
    let vars = c.args.vars.now in let boxes = c.args.boxes.now in
    let test = c.loop-k-test.false in
    let z : c.loop-k.k ≡ 0 = omega arith in
    subst (λ (n : ℕ). AreAlone (drop n vars) vars boxes) z c.loop-k.invariant.alone
