use Rattle.std.proofs.Common.{arith}
use Rattle.linear_prop.specs.Rows.{terms_of}
use Rattle.linear_prop.proofs.Causes.{spread_fits}
use Rattle.linear_prop.proofs.cause.cause_of.Goals as goal

pub plus-requires : goal.plus-requires
plus-requires c =
    let s = spread_fits (terms_of c.args.row.now) c.args.boxes.now c.walk-found.result.spread.value c.requires.fits c.walk-found.ensures.spread in
    let f = c.walk-found.ensures.fits in omega (arith, s, f)

pub pruned-requires-clause-spread_fits : goal.pruned-requires-clause-spread_fits
pruned-requires-clause-spread_fits c = spread_fits (terms_of c.args.row.now) c.args.boxes.now c.walk-found.result.spread.value c.requires.fits c.walk-found.ensures.spread
