use Rattle.std.proofs.Common.{ℤ, ◌*◌, ◌^◌, sym, subst, w64, of_z, to_z}
use Rattle.std.specs.Prelude.{unsigned_abs}
use Rattle.std.proofs.lemmas.Int.{to_z-of_z}
use Rattle.form_build.specs.Sums.{linear_weight, AreNumbersWithin}
use Rattle.form_build.proofs.Linears.{linear_more}
use Rattle.operator_forms.proofs.Factors.{HasTimes, has_times, scaled_within, own_weight}
use Rattle.operator_forms.proofs.product.times_light.Goals as goal

pub times-requires : goal.times-requires
times-requires c =
    let f = c.args.f.now in
    let boxes = c.args.maker.now.domains in
    let own = own_weight boxes (2 ^ 58) f c.requires.linear in
    let fits = scaled_within boxes (linear_weight f boxes) (unsigned_abs c.args.c) f own c.requires.light in
    record { numbers = subst (λ (z : ℤ). AreNumbersWithin (unsigned_abs z) (2 ^ 62) f) (sym (to_z-of_z w64 c.args.c c.ranges.c)) fits }

times : (c : goal.In_ok-r) → HasTimes c.args.c c.args.f.now c.in_ok-r.r
times c =
    let e = c.in_ok-r.ensures in
    has_times c.args.c (to_z w64 (of_z w64 c.args.c)) c.args.f.now c.in_ok-r.r (to_z-of_z w64 c.args.c c.ranges.c) (record { value = e.value; linear = e.linear; low = e.low; high = e.high })

pub returns-clause-value : goal.returns-clause-value
returns-clause-value c = (times c).value

pub returns-clause-linear : goal.returns-clause-linear
returns-clause-linear c =
    let f = c.args.f.now in
    let boxes = c.args.maker.now.domains in
    let own = own_weight boxes (2 ^ 58) f c.requires.linear in
    linear_more (unsigned_abs c.args.c * linear_weight f boxes) (2 ^ 58) boxes c.in_ok-r.r c.requires.light ((times c).linear boxes (linear_weight f boxes) own)

pub returns-clause-low : goal.returns-clause-low
returns-clause-low c = (times c).low c.args.maker.now.domains

pub returns-clause-high : goal.returns-clause-high
returns-clause-high c = (times c).high c.args.maker.now.domains
