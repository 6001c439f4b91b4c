use Rattle.std.proofs.Common.{◌≡◌, [], ◌≤ℤ◌, ◌∙◌, arith, subst, to_z, of_z, w64}
use Rattle.std.proofs.lemmas.Int.{ints}
use Rattle.std.proofs.lemmas.Grind.{common_steps}
use Rattle.signed_clause.specs.Clauses.{Boxes, box_of}
use Rattle.ground_form.specs.Bounds.{low_of, high_of}
use Rattle.form_build.specs.Sums.{IsOpen}
use Rattle.form_build.proofs.Singles.{variable_linear, variable_lies, ends_ordered, fixed_value}
use Rattle.form_build.proofs.settle.variable.Goals as goal

pub returns-in_ok-r-clause-linear : goal.returns-in_ok-r-clause-linear
returns-in_ok-r-clause-linear c =
    let there : IsOpen (box_of c.domains.result.now c.args.x) = grind (arith, common_steps, c.if-ends.true, c.ends_at-ends.ensures) in
    let wide = subst (λ (z : Boxes). IsOpen (box_of z c.args.x)) c.domains.ensures.items there in
    variable_linear c.args.x c.in_ok-r.r c.args.b.now.domains c.in_ok-r.ensures c.requires.exists wide

pub returns-in_ok-r-clause-lies : goal.returns-in_ok-r-clause-lies
returns-in_ok-r-clause-lies c =
    variable_lies c.args.x c.in_ok-r.r c.args.b.now.domains c.in_ok-r.ensures (ends_ordered (box_of c.args.b.now.domains c.args.x) (c.domains.ensures.well_made.domains c.args.x [] c.requires.exists))

single : (c : goal.After-number) → high_of (box_of c.args.b.now.domains c.args.x) ≤ℤ low_of (box_of c.args.b.now.domains c.args.x)
single c =
    let there : high_of (box_of c.domains.result.now c.args.x) ≤ℤ low_of (box_of c.domains.result.now c.args.x) = grind (arith, common_steps, c.if-ends.false, c.ends_at-ends.ensures) in
    subst (λ (z : Boxes). high_of (box_of z c.args.x) ≤ℤ low_of (box_of z c.args.x)) c.domains.ensures.items there

-- the number that was made is the least value
least : (c : goal.After-number) → to_z w64 (of_z w64 c.ends_at-ends.result.0) ≡ low_of (box_of c.args.b.now.domains c.args.x)
least c =
    let there : to_z w64 (of_z w64 c.ends_at-ends.result.0) ≡ low_of (box_of c.domains.result.now c.args.x) = grind (arith, common_steps, c.ends_at-ends.ensures) in
    subst (λ (z : Boxes). to_z w64 (of_z w64 c.ends_at-ends.result.0) ≡ low_of (box_of z c.args.x)) c.domains.ensures.items there

pub returns-else-ends-clause-value : goal.returns-else-ends-clause-value
returns-else-ends-clause-value c a w =
    c.number.ensures.value a ∙ least c
    ∙ fixed_value c.args.b.now.domains c.args.x a c.domains.ensures.well_made.domains c.requires.exists (single c) (w c.args.x c.requires.exists)

pub returns-else-ends-clause-lies : goal.returns-else-ends-clause-lies
returns-else-ends-clause-lies c =
    let order = ends_ordered (box_of c.args.b.now.domains c.args.x) (c.domains.ensures.well_made.domains c.args.x [] c.requires.exists) in
    let lies = c.number.ensures.lies c.args.b.now.domains in
    let is = least c in
    record { low_is = omega (arith, ints, lies.low_is, is); high_is = omega (arith, ints, lies.high_is, is, order) }
