use Rattle.std.proofs.Common.{rules, List, ℤ, ℕ, w64, ap, arith}
use Rattle.std.proofs.lemmas.Int.{ints, to_z-of_z}
use Rattle.ground_form.specs.Meaning.{sum_at}
use Rattle.form_build.proofs.Growth.{defines_more, world_before}
use Rattle.block_sums.proofs.sum.sum_variable.Goals as goal

pub returns-clause-value : goal.returns-clause-value
returns-clause-value c a w =
    let made = c.in_ok-blocks.ensures in
    let before = world_before c.few_blocks.new.b c.block_variable-2.new.b a c.in_ok-x-2.ensures.adds.grows w in
    let same = made.blocks.value a before in
    let is = ap (λ (z : List (ℤ × ℕ)). sum_at z a) c.deref.ensures.value in
    let offset = to_z-of_z w64 c.args.offset (search rules) in
    let x = c.in_ok-x-2.ensures.value a w in
    omega (arith, ints, x, is, same, offset)

pub returns-clause-adds : goal.returns-clause-adds
returns-clause-adds c = defines_more c.args.b.now c.few_blocks.new.b c.block_variable-2.new.b c.in_ok-blocks.ensures.adds c.in_ok-x-2.ensures.adds
