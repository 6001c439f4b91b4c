use Rattle.std.proofs.Common.{◌≡◌, ◌+◌, ◌≤◌, ◌^◌, List, ℤ, ℕ, to_z, of_z, w64, ap, arith}
use Rattle.std.specs.Prelude.{unsigned_abs}
use Rattle.std.proofs.lemmas.Int.{ints}
use Rattle.std.proofs.lemmas.Grind.{common_steps}
use Rattle.ground_form.specs.Meaning.{sum_at}
use Rattle.ground_form.specs.Bounds.{weight_of}
use Rattle.form_build.proofs.MergedSums.{same_there}
use Rattle.block_sums.proofs.sum.settled_in_blocks.Goals as goal

-- a number of a sum is itself again
kept : (v : ℤ) (n : ℕ) → n + unsigned_abs v ≤ 2 ^ 60 → to_z w64 (of_z w64 v) ≡ v
kept v n h = grind (arith, common_steps)

pub sum_variable-requires-clause-exist : goal.sum_variable-requires-clause-exist
sum_variable-requires-clause-exist c = same_there c.args.b.now.domains c.args.f.now.terms c.items.result.now c.items.ensures c.requires.linear.terms

pub sum_variable-requires-clause-bounded : goal.sum_variable-requires-clause-bounded
sum_variable-requires-clause-bounded c =
    let is = ap (λ (z : List (ℤ × ℕ)). weight_of z c.args.b.now.domains) c.items.ensures in
    let bounded = c.requires.linear.bounded in
    let offset = ap unsigned_abs (kept c.args.f.now.offset _ bounded) in
    omega (arith, is, offset, bounded)

pub returns-clause-value : goal.returns-clause-value
returns-clause-value c a w =
    let is = ap (λ (z : List (ℤ × ℕ)). sum_at z a) c.items.ensures in
    let offset = kept c.args.f.now.offset _ c.requires.linear.bounded in
    let x = c.in_ok-x.ensures.value a w in
    omega (arith, ints, x, is, offset)
