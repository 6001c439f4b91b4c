use Rattle.std.proofs.Common.{◌<◌, ◌*◌, ◌^◌, ℕ, unsigned_abs, subst, sym, arith, refl}
use Rattle.std.proofs.lemmas.Int.{ints}
use Rattle.box_view.proofs.EndLaws.{ends_in_order}
use Rattle.linear_prop.proofs.Falling.{apart_fits, gap_is, kept_high}
use Rattle.linear_prop.proofs.fall.fall_of.Goals as goal

pub lowest-end-requires : goal.lowest-end-requires
lowest-end-requires c = record { order = ends_in_order c.args.domain.now c.ranges-2.ensures.valid }

pub moves-gap-requires-clause-fits : goal.moves-gap-requires-clause-fits
moves-gap-requires-clause-fits c =
    subst (λ (n : ℕ). unsigned_abs c.args.c.value * n < 2 ^ 64) (sym c.apart.ensures)
    (apart_fits c.args.c.value c.args.at.value c.lowest-end.result.value c.args.domain.now c.requires.low c.requires.high c.lowest-end.ensures.low c.lowest-end.ensures.high c.requires.fits)

pub returns-then-gap-slack : goal.returns-then-gap-slack
returns-then-gap-slack c =
    let g = gap_is c.args.c.value c.args.at.value c.lowest-end.result.value c.args.domain.now c.apart.result c.moves-gap.result c.moves-gap.ensures c.apart.ensures c.requires.low c.requires.high
    c.lowest-end.ensures.up c.lowest-end.ensures.down c.lowest-end.ensures.value in
    let t = c.if-gap-slack.true in
    kept_high c.args.c.value _ _ c.args.domain.now c.moves-gap.result c.args.slack _ refl g (grind arith) refl

pub values_under-requires-clause-least : goal.values_under-requires-clause-least
values_under-requires-clause-least c =
    let g = gap_is c.args.c.value c.args.at.value c.lowest-end.result.value c.args.domain.now c.apart.result c.moves-gap.result c.moves-gap.ensures c.apart.ensures c.requires.low c.requires.high
    c.lowest-end.ensures.up c.lowest-end.ensures.down c.lowest-end.ensures.value in
    let p = c.back_off-left.ensures.paid in let n = c.if-gap-slack.false in
    let less : c.args.slack < c.moves-gap.result = grind arith in omega (arith, ints)
