use Rattle.std.proofs.Common.{◌≡◌, ◌+◌, ◌*◌, ◌<◌, ◌≤◌, List, ℤ, ℕ, length, refl, ap, ◌∙◌, subst, arith}
use Rattle.ground_form.specs.Bounds.{weight_of}
use Rattle.form_build.proofs.Growth.{defines_more}
use Rattle.block_sums.specs.Blocks.{AreBlocks}
use Rattle.block_sums.proofs.BlockSteps.{blocks_again, fewer}
use Rattle.block_sums.proofs.sum.few_blocks.Goals as goal

pub loop-b-init : goal.loop-b-init
loop-b-init c =
    let made = c.in_ok-blocks.ensures in
    let short = made.short in
    let few = made.few in
    let variables = few.variables in
    let constraints = few.constraints in
    record {
      blocks = made.blocks;
      variables = λ many. omega (arith, short, variables, many);
      constraints = λ many. omega (arith, short, constraints, many);
      adds = made.adds;
    }

pub loop-b-preserved : goal.loop-b-preserved
loop-b-preserved c =
    let start = c.args.b.now in
    let old = c.loop-b.b in
    let new = c.blocks_of-in-loop-b.new.b in
    let blocks = c.loop-b.blocks.items in
    let more = c.in_ok-blocks-2.blocks.items in
    let terms = c.args.terms.now in
    let before = c.loop-b.invariant in
    let made = c.in_ok-blocks-2.ensures in
    let is = c.deref.ensures.value in
    let size = ap (λ (z : List (ℤ × ℕ)). length z) is in
    let count : c.len.result ≡ length blocks = c.len.ensures ∙ c.loop-b.blocks.ok.0 in
    let test = c.loop-b-test.true in
    let many : 64 < length blocks = omega (arith, count, test) in
    let wide = made.short in
    let short : 32 * length more ≤ length blocks + 32 = omega (arith, wide, size) in
    record {
      blocks =
          blocks_again old new (weight_of terms start.domains) (weight_of blocks old.domains) terms blocks more made.adds.grows before.blocks refl
          (subst (λ (z : List (ℤ × ℕ)). AreBlocks new (weight_of z old.domains) z more) is made.blocks);
      variables = λ all. fewer (length start.domains) (length old.domains) (length new.domains) (length blocks) (length more) (length terms) short many (before.variables all) made.few.variables;
      constraints = λ all. fewer (length start.cons) (length old.cons) (length new.cons) (length blocks) (length more) (length terms) short many (before.constraints all) made.few.constraints;
      adds = defines_more start old new before.adds made.adds;
    }
