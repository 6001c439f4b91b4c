use Rattle.std.proofs.Common.{ℤ, ◌∙◌, ◌*◌, ◌^◌, ◌*ℤ◌, [], ap, sym, subst, arith, w64, of_z, to_z}
use Rattle.std.specs.Prelude.{unsigned_abs}
use Rattle.std.proofs.lemmas.Int.{to_z-of_z}
use Rattle.signed_clause.specs.Clauses.{box_of}
use Rattle.ground_form.specs.Bounds.{reach_of}
use Rattle.form_build.specs.Sums.{AreNumbersWithin}
use Rattle.form_build.proofs.Linears.{linear_more}
use Rattle.form_build.proofs.Singles.{ends_ordered}
use Rattle.operator_forms.proofs.Factors.{HasTimes, has_times, scaled_within, reach_near, settled_low, settled_high}
use Rattle.operator_forms.proofs.product.times_settled.Goals as goal

pub settled-requires-clause-linear : goal.settled-requires-clause-linear
settled-requires-clause-linear c = linear_more (2 ^ 58) (2 ^ 60) c.args.maker.now.domains c.args.f.now (omega arith) c.requires.linear

pub times-requires : goal.times-requires
times-requires c =
    let boxes = c.settled.new.b.domains in
    let box = box_of boxes c.in_ok-x.x in
    let order = ends_ordered box (c.domains-domains.ensures.well_made.domains c.in_ok-x.x [] c.in_ok-x.ensures.exists) in
    let le = reach_near c.args.c c.args.maker.now.domains c.args.f.now box c.requires.near c.in_ok-x.ensures.lies order in
    let fits = scaled_within boxes (reach_of box) (unsigned_abs c.args.c) c.in_ok-one.one c.in_ok-one.ensures.linear (omega (arith, le)) in
    record { numbers = subst (λ (z : ℤ). AreNumbersWithin (unsigned_abs z) (2 ^ 62) c.in_ok-one.one) (sym (to_z-of_z w64 c.args.c c.ranges.c)) fits }

times : (c : goal.After-drop-one-2) → HasTimes c.args.c c.in_ok-one.one c.in_ok-r.r
times c =
    let e = c.in_ok-r.ensures in
    has_times c.args.c (to_z w64 (of_z w64 c.args.c)) c.in_ok-one.one c.in_ok-r.r (to_z-of_z w64 c.args.c c.ranges.c) (record { value = e.value; linear = e.linear; low = e.low; high = e.high })

pub returns-clause-value : goal.returns-clause-value
returns-clause-value c a w =
    (times c).value a ∙ ap (λ (z : ℤ). c.args.c *ℤ z) (c.in_ok-one.ensures.value a w.within ∙ c.in_ok-x.ensures.value a w)

pub returns-clause-linear : goal.returns-clause-linear
returns-clause-linear c =
    let boxes = c.settled.new.b.domains in
    let box = box_of boxes c.in_ok-x.x in
    let order = ends_ordered box (c.domains-domains.ensures.well_made.domains c.in_ok-x.x [] c.in_ok-x.ensures.exists) in
    let le = reach_near c.args.c c.args.maker.now.domains c.args.f.now box c.requires.near c.in_ok-x.ensures.lies order in
    linear_more (unsigned_abs c.args.c * reach_of box) (2 ^ 58) boxes c.in_ok-r.r (omega (arith, le)) ((times c).linear boxes (reach_of box) c.in_ok-one.ensures.linear)

pub returns-clause-low : goal.returns-clause-low
returns-clause-low c =
    let boxes = c.settled.new.b.domains in
    settled_low c.args.c c.args.maker.now.domains boxes c.args.f.now c.in_ok-one.one c.in_ok-r.r (box_of boxes c.in_ok-x.x) c.in_ok-x.ensures.lies c.in_ok-one.ensures.lies ((times c).low boxes)

pub returns-clause-high : goal.returns-clause-high
returns-clause-high c =
    let boxes = c.settled.new.b.domains in
    settled_high c.args.c c.args.maker.now.domains boxes c.args.f.now c.in_ok-one.one c.in_ok-r.r (box_of boxes c.in_ok-x.x) c.in_ok-x.ensures.lies c.in_ok-one.ensures.lies ((times c).high boxes)
