use Rattle.std.proofs.Common.{rules, ◌≡◌, ◌^◌, ◌+◌, ℤ, ◌+ℤ◌, [], w64, subst, ◌∙◌, arith}
use Rattle.std.specs.Prelude.{unsigned_abs}
use Rattle.std.proofs.lemmas.Int.{to_z-of_z}
use Rattle.signed_clause.specs.Clauses.{box_of}
use Rattle.ground_form.specs.Meaning.{sum_at}
use Rattle.ground_form.specs.Bounds.{weight_of}
use Rattle.form_build.specs.Forms.{linear_at}
use Rattle.form_build.specs.Sums.{IsLinear}
use Rattle.form_build.proofs.Growth.{world_before}
use Rattle.form_build.proofs.Linears.{linear_more}
use Rattle.block_sums.proofs.OrderedSums.{reach_within}
use Rattle.block_sums.proofs.blocks.block_variable.Goals as goal

pub settled-requires-clause-linear : goal.settled-requires-clause-linear
settled-requires-clause-linear c =
    let w = weight_of c.args.terms.now c.args.b.now.domains in
    linear_more (w + unsigned_abs c.args.offset) (2 ^ 60) c.args.b.now.domains c.in_ok-sum.sum c.requires.bounded
    (subst (λ (v : ℤ). IsLinear (w + unsigned_abs v) c.args.b.now.domains c.in_ok-sum.sum) (to_z-of_z w64 c.args.offset (search rules)) c.in_ok-sum.ensures.linear)

pub returns-clause-value : goal.returns-clause-value
returns-clause-value c a w =
    let before = world_before c.args.b.now c.settled.new.b a c.in_ok-x.ensures.adds.grows w in
    c.in_ok-x.ensures.value a w
    ∙ subst (λ (v : ℤ). linear_at c.in_ok-sum.sum a ≡ (sum_at c.args.terms.now a +ℤ v)) (to_z-of_z w64 c.args.offset (search rules)) (c.in_ok-sum.ensures.value a before.within)

pub returns-clause-reach : goal.returns-clause-reach
returns-clause-reach c =
    let boxes = c.settled.new.b.domains in
    let w = weight_of c.args.terms.now c.args.b.now.domains in
    let valid = c.domains-grown.ensures.well_made.domains c.in_ok-x.x [] c.in_ok-x.ensures.exists in
    let reach = reach_within c.in_ok-sum.sum c.args.b.now.domains (box_of boxes c.in_ok-x.x) valid c.in_ok-x.ensures.lies in
    let linear = subst (λ (v : ℤ). IsLinear (w + unsigned_abs v) c.args.b.now.domains c.in_ok-sum.sum) (to_z-of_z w64 c.args.offset (search rules)) c.in_ok-sum.ensures.linear in
    let bounded = linear.bounded in
    omega (arith, reach, bounded)
