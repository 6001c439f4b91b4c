use Rattle.std.proofs.Common.{rules, ℤ, unsigned_abs, w64, ◌^◌, ◌*◌, ◌*ℤ◌, ◌≡◌, ◌∙◌, List, sym, subst, arith}
use Rattle.std.proofs.lemmas.Int.{to_z-of_z}
use Rattle.form_build.specs.Forms.{linear_at}
use Rattle.form_build.specs.Sums.{IsLinear, AreNumbersWithin}
use Rattle.form_build.proofs.Linears.{linear_more}
use Rattle.packing_sums.proofs.RowLaws.{times_numbers, few_signed}
use Rattle.goal_rows.proofs.dividing.times.Goals as goal

pub times-requires : goal.times-requires
times-requires c = record {
  numbers =
      subst (λ (v : ℤ). AreNumbersWithin (unsigned_abs v) (2 ^ 62) c.args.f.now) (sym (to_z-of_z w64 c.signed.result (search rules)))
      (times_numbers c.args.maker.now.domains c.args.f.now c.signed.result (few_signed c.signed.result c.args.n c.signed.ensures c.requires.small)
      (linear_more (2 ^ 19) (2 ^ 40) c.args.maker.now.domains c.args.f.now (omega arith) c.requires.linear));
}

pub returns-clause-linear : goal.returns-clause-linear
returns-clause-linear c =
    let few = few_signed c.signed.result c.args.n c.signed.ensures c.requires.small in
    linear_more (unsigned_abs c.signed.result * 2 ^ 19) (2 ^ 37) c.args.maker.now.domains c.in_ok-r.r (omega (arith, few))
    (subst (λ (v : ℤ). IsLinear (unsigned_abs v * 2 ^ 19) c.args.maker.now.domains c.in_ok-r.r) (to_z-of_z w64 c.signed.result (search rules)) (c.in_ok-r.ensures.linear c.args.maker.now.domains (2 ^ 19) c.requires.linear))

pub returns-clause-value : goal.returns-clause-value
returns-clause-value c =
    subst (λ (v : ℤ). (a : List ℤ) → linear_at c.in_ok-r.r a ≡ (v *ℤ linear_at c.args.f.now a)) (to_z-of_z w64 c.signed.result (search rules) ∙ c.signed.ensures) c.in_ok-r.ensures.value
