use Rattle.linear_prop.specs.Rows.{terms_of}
use Rattle.linear_prop.proofs.Turning.{domain_some, factor_fits, index_low, index_high, turn_at_index_done}
use Rattle.linear_prop.proofs.explain.turn_at_index.Goals as goal

pub fall_of-requires-clause-some : goal.fall_of-requires-clause-some
fall_of-requires-clause-some c = domain_some (terms_of c.args.scene.row.now) c.args.scene.domains.now c.args.scene.boxes.now c.args.i c.args.t c.set_at-domain.result.now c.requires.turn c.set_at-domain.ensures

pub fall_of-requires-clause-low : goal.fall_of-requires-clause-low
fall_of-requires-clause-low c =
    index_low (terms_of c.args.scene.row.now) c.args.scene.domains.now c.args.scene.boxes.now _ c.args.scene.cause.index c.args.scene.cause.to.value c.args.i _ c.args.t _ c.requires.turn c.requires.cause c.requires.index c.set_at-domain.ensures

pub fall_of-requires-clause-high : goal.fall_of-requires-clause-high
fall_of-requires-clause-high c =
    index_high (terms_of c.args.scene.row.now) c.args.scene.domains.now c.args.scene.boxes.now _ c.args.scene.cause.index c.args.scene.cause.to.value c.args.i _ c.args.t _ c.requires.turn c.requires.cause c.requires.index c.set_at-domain.ensures

pub fall_of-requires-clause-fits : goal.fall_of-requires-clause-fits
fall_of-requires-clause-fits c = factor_fits c.args.t c.factor_of-c.result.value c.args.scene.domains.now c.set_at-domain.result.now c.factor_of-c.ensures c.set_at-domain.ensures c.requires.fits

pub returns : goal.returns
returns c =
    turn_at_index_done (terms_of c.args.scene.row.now) c.args.scene.domains.now c.args.scene.boxes.now c.args.scene.row.now.bound.value c.args.scene.cause.index c.args.scene.cause.to.value c.args.i c.args.out.now.items c.put.new.out.items
    c.args.slack c.in_ok-f.f.left c.args.scene.cause.slack c.args.t c.factor_of-c.result.value c.set_at-domain.result.now c.in_ok-f.f.literal c.requires.turn c.requires.cause c.requires.so_far c.requires.index
    c.factor_of-c.ensures c.set_at-domain.ensures c.in_ok-f.ensures c.in_ok-put.ensures
