use Rattle.std.proofs.Common.{rules, [], ◌≡◌, ◌^◌, ◌*◌, ℤ, pos, ◌≤ℤ◌, unsigned_abs, arith, ap, sym, subst, ◌∙◌, w64, to_z, of_z}
use Rattle.std.proofs.lemmas.Int.{ints, to_z-of_z}
use Rattle.std.proofs.lemmas.Grind.{common_steps}
use Rattle.signed_clause.specs.Clauses.{box_of}
use Rattle.ground_form.specs.Bounds.{reach_of}
use Rattle.ground_build.proofs.Sums.{sums_ordered}
use Rattle.form_build.proofs.Singles.{ends_ordered}
use Rattle.form_truths.proofs.NumberTerms.{number_value, number_sum, numbers_scaled}
use Rattle.form_truths.proofs.products.number_where.Goals as goal

pub times-requires : goal.times-requires
times-requires c =
    let offset : to_z w64 (of_z w64 c.args.f.now.offset) ≡ c.args.f.now.offset = grind (arith, common_steps, c.requires.small) in
    let size = ap unsigned_abs offset in
    let order = ends_ordered (box_of c.args.m.now.domains c.args.flag) (c.domains-domains.ensures.well_made.domains c.args.flag [] c.requires.exists) in
    record { numbers = numbers_scaled c.args.m.now.domains (box_of c.args.m.now.domains c.args.flag) c.in_ok-one.one _ c.requires.flag order c.in_ok-one.ensures.linear (omega (arith, size, c.requires.small)) }

pub returns-clause-value : goal.returns-clause-value
returns-clause-value c a b w e =
    let offset : to_z w64 (of_z w64 c.args.f.now.offset) ≡ c.args.f.now.offset = grind (arith, common_steps, c.requires.small) in
    c.in_ok-r.ensures.value a ∙ number_value c.args.f.now a b _ _ c.requires.number offset (c.in_ok-one.ensures.value a w.within ∙ e)

pub returns-clause-sum : goal.returns-clause-sum
returns-clause-sum c =
    let offset : to_z w64 (of_z w64 c.args.f.now.offset) ≡ c.args.f.now.offset = grind (arith, common_steps, c.requires.small) in
    let order = ends_ordered (box_of c.args.m.now.domains c.args.flag) (c.domains-domains.ensures.well_made.domains c.args.flag [] c.requires.exists) in
    let sums = sums_ordered c.in_ok-one.one.terms c.args.m.now.domains in
    number_sum c.args.m.now.domains (box_of c.args.m.now.domains c.args.flag) c.args.f.now c.in_ok-one.one c.in_ok-r.r _ c.requires.flag order c.requires.number offset c.requires.small c.in_ok-one.ensures.lies (omega (arith, ints, sums))
    (c.in_ok-r.ensures.linear c.args.m.now.domains _ c.in_ok-one.ensures.linear) (c.in_ok-r.ensures.low c.args.m.now.domains) (c.in_ok-r.ensures.high c.args.m.now.domains)
