use Rattle.std.proofs.Common.{rules, ℤ, pos, unsigned_abs, w64, ◌^◌, ◌+◌, ◌*◌, ◌*ℤ◌, ◌≡◌, ◌∙◌, sym, ap, subst, arith}
use Rattle.std.proofs.lemmas.Int.{ints, to_z-of_z}
use Rattle.form_build.specs.Forms.{linear_at}
use Rattle.form_build.specs.Sums.{IsLinear, AreNumbersWithin}
use Rattle.form_build.proofs.Linears.{numbers_within, linear_more}
use Rattle.stated_facts.proofs.NoughtLaws.{multiple_numbers}
use Rattle.packing_sums.proofs.RowLaws.{small_signed, twice_linear}
use Rattle.packing_sums.proofs.used.share_of.Goals as goal

pub times-requires : goal.times-requires
times-requires c = record {
  numbers =
      subst (λ (v : ℤ). AreNumbersWithin (unsigned_abs v) (2 ^ 62) c.in_ok-own.own) (sym (to_z-of_z w64 c.signed.result (search rules)))
      (multiple_numbers c.args.maker.now.domains c.in_ok-own.own c.signed.result (small_signed c.signed.result c.args.h.now.more c.signed.ensures c.requires.more)
      (linear_more 2 (2 ^ 20) c.args.maker.now.domains c.in_ok-own.own (omega arith) c.in_ok-own.ensures.linear));
}

pub plus-requires-clause-left : goal.plus-requires-clause-left
plus-requires-clause-left c =
    numbers_within c.args.maker.now.domains (2 ^ 39) (2 ^ 61) c.in_ok-more.more (omega arith)
    (twice_linear c.args.maker.now.domains c.in_ok-more.more c.signed.result (small_signed c.signed.result c.args.h.now.more c.signed.ensures c.requires.more)
    (subst (λ (v : ℤ). IsLinear (unsigned_abs v * 2) c.args.maker.now.domains c.in_ok-more.more) (to_z-of_z w64 c.signed.result (search rules))
    (c.in_ok-more.ensures.linear c.args.maker.now.domains 2 c.in_ok-own.ensures.linear)))

pub plus-requires-clause-right : goal.plus-requires-clause-right
plus-requires-clause-right c = numbers_within c.args.maker.now.domains c.args.h.now.stays (2 ^ 61) c.amount-stays.result (omega (arith, c.requires.stays)) (c.amount-stays.ensures.linear c.args.maker.now.domains)

pub returns-clause-value : goal.returns-clause-value
returns-clause-value c a w =
    let sum = c.in_ok-r.ensures.value a in
    let stays = c.amount-stays.ensures.value a in
    let more : linear_at c.in_ok-more.more a ≡ (pos c.args.h.now.more *ℤ linear_at c.in_ok-own.own a) =
    subst (λ (v : ℤ). linear_at c.in_ok-more.more a ≡ (v *ℤ linear_at c.in_ok-own.own a)) (to_z-of_z w64 c.signed.result (search rules) ∙ c.signed.ensures) (c.in_ok-more.ensures.value a) in
    let own = ap (λ (v : ℤ). pos c.args.h.now.more *ℤ v) (c.in_ok-own.ensures.value a w) in
    omega (arith, ints, sum, stays, more, own)

pub returns-clause-linear : goal.returns-clause-linear
returns-clause-linear c =
    linear_more (2 ^ 39 + 2 ^ 38) (2 ^ 40) c.args.maker.now.domains c.in_ok-r.r (omega arith)
    (c.in_ok-r.ensures.linear c.args.maker.now.domains (2 ^ 39) (2 ^ 38)
    (twice_linear c.args.maker.now.domains c.in_ok-more.more c.signed.result (small_signed c.signed.result c.args.h.now.more c.signed.ensures c.requires.more)
    (subst (λ (v : ℤ). IsLinear (unsigned_abs v * 2) c.args.maker.now.domains c.in_ok-more.more) (to_z-of_z w64 c.signed.result (search rules))
    (c.in_ok-more.ensures.linear c.args.maker.now.domains 2 c.in_ok-own.ensures.linear)))
    (linear_more c.args.h.now.stays (2 ^ 38) c.args.maker.now.domains c.amount-stays.result c.requires.stays (c.amount-stays.ensures.linear c.args.maker.now.domains)))
