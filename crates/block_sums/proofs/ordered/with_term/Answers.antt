use Rattle.std.proofs.Common.{rules, ◌≡◌, ◌*◌, ◌^◌, ℤ, ◌*ℤ◌, w64, unsigned_abs, sym, subst, arith}
use Rattle.std.proofs.lemmas.Int.{to_z-of_z}
use Rattle.signed_clause.specs.Clauses.{box_of}
use Rattle.ground_form.specs.Meaning.{value_of}
use Rattle.ground_form.specs.Bounds.{reach_of, term_weight}
use Rattle.form_build.specs.Forms.{linear_at}
use Rattle.form_build.specs.Sums.{IsLinear, AreNumbersWithin}
use Rattle.form_build.proofs.Linears.{numbers_within}
use Rattle.block_sums.proofs.OrderedSums.{factor_within, term_linear, term_more}
use Rattle.block_sums.proofs.ordered.with_term.Goals as goal

pub times-requires : goal.times-requires
times-requires c = record {
  numbers =
      subst (λ (v : ℤ). AreNumbersWithin (unsigned_abs v) (2 ^ 62) c.in_ok-x.x) (sym (to_z-of_z w64 c.args.t.0 (search rules)))
      (factor_within c.args.b.now.domains c.args.t c.in_ok-x.x c.requires.bounded c.in_ok-x.ensures.linear);
}

pub plus-requires-clause-left : goal.plus-requires-clause-left
plus-requires-clause-left c = numbers_within c.args.b.now.domains (2 ^ 60) (2 ^ 61) c.args.sum.now (omega arith) c.requires.sum

pub plus-requires-clause-right : goal.plus-requires-clause-right
plus-requires-clause-right c =
    let boxes = c.args.b.now.domains in
    let t = c.args.t in
    let reach = reach_of (box_of boxes t.1) in
    numbers_within boxes (term_weight t boxes) (2 ^ 61) c.in_ok-term.term (omega (arith, c.requires.bounded))
    (term_linear boxes t c.in_ok-term.term
    (subst (λ (v : ℤ). IsLinear (unsigned_abs v * reach) boxes c.in_ok-term.term) (to_z-of_z w64 c.args.t.0 (search rules))
    (c.in_ok-term.ensures.linear boxes reach c.in_ok-x.ensures.linear)))

pub returns-clause-value : goal.returns-clause-value
returns-clause-value c a w =
    let t = c.args.t in
    let x = linear_at c.in_ok-x.x a in
    let term = linear_at c.in_ok-term.term a in
    term_more (linear_at c.in_ok-more.more a) (linear_at c.args.sum.now a) x (value_of a t.1) t.0 term
    (c.in_ok-more.ensures.value a)
    (subst (λ (v : ℤ). term ≡ (v *ℤ x)) (to_z-of_z w64 c.args.t.0 (search rules)) (c.in_ok-term.ensures.value a))
    (c.in_ok-x.ensures.value a w)

pub returns-clause-linear : goal.returns-clause-linear
returns-clause-linear c n h =
    let boxes = c.args.b.now.domains in
    let t = c.args.t in
    let reach = reach_of (box_of boxes t.1) in
    c.in_ok-more.ensures.linear boxes n (term_weight t boxes) h
    (term_linear boxes t c.in_ok-term.term
    (subst (λ (v : ℤ). IsLinear (unsigned_abs v * reach) boxes c.in_ok-term.term) (to_z-of_z w64 c.args.t.0 (search rules))
    (c.in_ok-term.ensures.linear boxes reach c.in_ok-x.ensures.linear)))
