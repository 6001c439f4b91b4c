use Rattle.linear_prop.specs.Rows.{terms_of}
use Rattle.linear_prop.proofs.Turning.{domain_some, ends_of_box, at_least, at_most, factor_fits, turn_elsewhere_done}
use Rattle.linear_prop.proofs.explain.turn_elsewhere.Goals as goal

pub lowest-at-requires : goal.lowest-at-requires
lowest-at-requires c = record { order = ends_of_box (terms_of c.args.scene.row.now) c.args.scene.domains.now c.args.scene.boxes.now c.args.i c.args.t c.set_at.result.now c.requires.turn c.set_at.ensures }

pub fall_of-requires-clause-some : goal.fall_of-requires-clause-some
fall_of-requires-clause-some c = domain_some (terms_of c.args.scene.row.now) c.args.scene.domains.now c.args.scene.boxes.now c.args.i c.args.t c.set_at-domain.result.now c.requires.turn c.set_at-domain.ensures

pub fall_of-requires-clause-low : goal.fall_of-requires-clause-low
fall_of-requires-clause-low c =
    at_least (terms_of c.args.scene.row.now) c.args.scene.domains.now c.args.scene.boxes.now c.args.i c.args.t c.set_at-domain.result.now c.set_at.result.now _ c.requires.turn c.set_at-domain.ensures c.set_at.ensures c.lowest-at.ensures.low

pub fall_of-requires-clause-high : goal.fall_of-requires-clause-high
fall_of-requires-clause-high c =
    at_most (terms_of c.args.scene.row.now) c.args.scene.domains.now c.args.scene.boxes.now c.args.i c.args.t c.set_at-domain.result.now c.set_at.result.now _ c.requires.turn c.set_at-domain.ensures c.set_at.ensures c.lowest-at.ensures.high

pub fall_of-requires-clause-fits : goal.fall_of-requires-clause-fits
fall_of-requires-clause-fits c = factor_fits c.args.t c.factor_of-c.result.value c.args.scene.domains.now c.set_at-domain.result.now c.factor_of-c.ensures c.set_at-domain.ensures c.requires.fits

pub returns : goal.returns
returns c =
    turn_elsewhere_done (terms_of c.args.scene.row.now) c.args.scene.domains.now c.args.scene.boxes.now c.args.scene.row.now.bound.value c.args.scene.cause.index c.args.scene.cause.to.value c.args.i c.args.out.now.items c.put.new.out.items
    c.args.slack c.in_ok-f.f.left c.args.t c.factor_of-c.result.value _ c.set_at-domain.result.now c.set_at.result.now c.in_ok-f.f.literal c.requires.turn c.requires.so_far c.requires.other
    c.factor_of-c.ensures c.set_at-domain.ensures c.set_at.ensures c.lowest-at.ensures.value c.in_ok-f.ensures c.in_ok-put.ensures
