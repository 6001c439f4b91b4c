use Rattle.std.proofs.Common.{rules, ℤ, unsigned_abs, w64, ◌^◌, ◌*◌, ◌*ℤ◌, ◌≡◌, List, sym, subst}
use Rattle.std.proofs.lemmas.Int.{to_z-of_z}
use Rattle.form_build.specs.Forms.{linear_at}
use Rattle.form_build.specs.Sums.{IsLinear, AreNumbersWithin}
use Rattle.stated_facts.proofs.NoughtLaws.{scaled_follows}
use Rattle.packing_sums.proofs.RowLaws.{times_numbers, times_linear, few_signed}
use Rattle.packing_sums.proofs.rows.scaled.Goals as goal

pub times-requires : goal.times-requires
times-requires c = record {
  numbers =
      subst (λ (v : ℤ). AreNumbersWithin (unsigned_abs v) (2 ^ 62) c.args.row.now) (sym (to_z-of_z w64 c.signed.result (search rules)))
      (times_numbers c.args.maker.now.domains c.args.row.now c.signed.result (few_signed c.signed.result c.args.times c.signed.ensures c.requires.small) c.requires.row);
}

pub returns-clause-row : goal.returns-clause-row
returns-clause-row c =
    times_linear c.args.maker.now.domains c.in_ok-r.r c.signed.result (few_signed c.signed.result c.args.times c.signed.ensures c.requires.small)
    (subst (λ (v : ℤ). IsLinear (unsigned_abs v * 2 ^ 40) c.args.maker.now.domains c.in_ok-r.r) (to_z-of_z w64 c.signed.result (search rules)) (c.in_ok-r.ensures.linear c.args.maker.now.domains (2 ^ 40) c.requires.row))

pub returns-clause-follows : goal.returns-clause-follows
returns-clause-follows c =
    scaled_follows c.args.maker.now c.args.row.now c.in_ok-r.r c.args.times c.signed.result c.signed.ensures
    (subst (λ (v : ℤ). (a : List ℤ) → linear_at c.in_ok-r.r a ≡ (v *ℤ linear_at c.args.row.now a)) (to_z-of_z w64 c.signed.result (search rules)) c.in_ok-r.ensures.value)
    c.requires.follows
