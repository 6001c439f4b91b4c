use Rattle.std.proofs.Common.{rules, ℤ, unsigned_abs, w64, ◌^◌, ◌*◌, ◌*ℤ◌, ◌≡◌, List, sym, subst}
use Rattle.std.proofs.lemmas.Int.{to_z-of_z}
use Rattle.form_build.specs.Forms.{linear_at}
use Rattle.form_build.specs.Sums.{IsLinear, AreNumbersWithin}
use Rattle.stated_facts.proofs.NoughtLaws.{multiple_numbers, multiple_linear, multiple_below, multiple_above}
use Rattle.stated_facts.proofs.noughts.multiple_of.Goals as goal

pub times-requires : goal.times-requires
times-requires c = record {
  numbers =
      subst (λ (v : ℤ). AreNumbersWithin (unsigned_abs v) (2 ^ 62) c.args.zero.now.sum) (sym (to_z-of_z w64 c.signed_multiple.result (search rules)))
      (multiple_numbers c.args.maker.now.domains c.args.zero.now.sum c.signed_multiple.result c.signed_multiple.ensures.small c.requires.nought.linear);
}

pub returns-clause-linear : goal.returns-clause-linear
returns-clause-linear c =
    multiple_linear c.args.maker.now.domains c.in_ok-r.r c.signed_multiple.result c.signed_multiple.ensures.small
    (subst (λ (v : ℤ). IsLinear (unsigned_abs v * 2 ^ 20) c.args.maker.now.domains c.in_ok-r.r) (to_z-of_z w64 c.signed_multiple.result (search rules)) (c.in_ok-r.ensures.linear c.args.maker.now.domains (2 ^ 20) c.requires.nought.linear))

pub returns-clause-below : goal.returns-clause-below
returns-clause-below c =
    multiple_below c.args.maker.now c.args.zero.now c.args.n c.signed_multiple.result c.in_ok-r.r
    (subst (λ (v : ℤ). (a : List ℤ) → linear_at c.in_ok-r.r a ≡ (v *ℤ linear_at c.args.zero.now.sum a)) (to_z-of_z w64 c.signed_multiple.result (search rules)) c.in_ok-r.ensures.value)
    c.requires.nought c.args.rises c.signed_multiple.ensures.up c.signed_multiple.ensures.down

pub returns-clause-above : goal.returns-clause-above
returns-clause-above c =
    multiple_above c.args.maker.now c.args.zero.now c.args.n c.signed_multiple.result c.in_ok-r.r
    (subst (λ (v : ℤ). (a : List ℤ) → linear_at c.in_ok-r.r a ≡ (v *ℤ linear_at c.args.zero.now.sum a)) (to_z-of_z w64 c.signed_multiple.result (search rules)) c.in_ok-r.ensures.value)
    c.requires.nought c.args.rises c.signed_multiple.ensures.up c.signed_multiple.ensures.down
