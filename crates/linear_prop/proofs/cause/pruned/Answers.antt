use Rattle.std.proofs.Common.{◌≡◌, ◌<◌, ◌-◌, pos, ◌+ℤ◌, ◌-ℤ◌, arith}
use Rattle.std.proofs.lemmas.Int.{ints}
use Rattle.linear_prop.specs.Rows.{terms_of}
use Rattle.linear_prop.proofs.Turning.{ends_of_box}
use Rattle.linear_prop.proofs.RowFacts.{term_named, turn_of}
use Rattle.linear_prop.proofs.Falling.{fall_is}
use Rattle.linear_prop.proofs.Causes.{factor_some, spread_is, pruned_cause}
use Rattle.linear_prop.proofs.cause.pruned.Goals as goal

pub set_at-of_term-requires : goal.set_at-of_term-requires
set_at-of_term-requires c = term_named (terms_of c.args.row.now) c.args.boxes.now c.args.found.index c.term-t.result c.requires.over.named c.requires.index (c.term-t.ensures.term (pos 0, 0))

pub highest-at-requires : goal.highest-at-requires
highest-at-requires c = record {
  order = ends_of_box (terms_of c.args.row.now) c.args.domains.now c.args.boxes.now c.args.found.index c.term-t.result c.set_at-of_term.result.now
      (turn_of (terms_of c.args.row.now) c.args.domains.now c.args.boxes.now c.args.found.index c.term-t.result c.requires.over c.requires.index (c.term-t.ensures.term (pos 0, 0))) c.set_at-of_term.ensures;
}

pub back_off-slack-requires-clause-factor : goal.back_off-slack-requires-clause-factor
back_off-slack-requires-clause-factor c =
    let w = c.requires.within in let a = c.requires.above in
    factor_some (terms_of c.args.row.now) c.args.boxes.now c.args.found.index c.term-t.result c.factor_of-c.result.value c.highest-at.result.value c.args.found.spread.value c.set_at-of_term.result.now
    (c.term-t.ensures.term (pos 0, 0)) c.factor_of-c.ensures c.set_at-of_term.ensures c.requires.spread (omega (arith, ints)) c.highest-at.ensures.value

pub lowest-end-requires : goal.lowest-end-requires
lowest-end-requires c = record {
  order = ends_of_box (terms_of c.args.row.now) c.args.domains.now c.args.boxes.now c.args.found.index c.term-t.result c.set_at-of_term.result.now
      (turn_of (terms_of c.args.row.now) c.args.domains.now c.args.boxes.now c.args.found.index c.term-t.result c.requires.over c.requires.index (c.term-t.ensures.term (pos 0, 0))) c.set_at-of_term.ensures;
}

pub back_off-slack-requires-clause-slack : goal.back_off-slack-requires-clause-slack
back_off-slack-requires-clause-slack c =
    let fall = fall_is c.factor_of-c.result.value c.highest-at.result.value c.lowest-end.result.value
    (λ n. let e = c.lowest-end.ensures.up n in let l = c.highest-at.ensures.low in omega (arith, ints)) (λ n. let e = c.lowest-end.ensures.down n in let h = c.highest-at.ensures.high in omega (arith, ints)) in
    let is = spread_is (terms_of c.args.row.now) c.args.boxes.now c.args.found.index c.term-t.result c.factor_of-c.result.value c.highest-at.result.value c.lowest-end.result.value c.args.found.spread.value
    c.set_at-of_term.result.now (c.term-t.ensures.term (pos 0, 0)) c.factor_of-c.ensures c.set_at-of_term.ensures c.requires.spread c.highest-at.ensures.value c.lowest-end.ensures.value in
    let a = c.above-full.ensures in let p = c.plus.ensures in let w = c.requires.within in let u = c.requires.above in omega (arith, ints)

pub returns : goal.returns
returns c =
    let full = c.above-full.result - 1 in
    let a : pos c.above-full.result ≡ c.plus.result.value -ℤ c.args.row.now.bound.value = c.above-full.ensures in
    let p : c.plus.result.value ≡ c.args.found.least.value +ℤ c.args.found.spread.value = c.plus.ensures in
    let up = c.requires.above in
    let some : 0 < c.above-full.result = omega (arith, ints) in
    let is : pos full ≡ ((c.args.found.least.value +ℤ c.args.found.spread.value) -ℤ c.args.row.now.bound.value) -ℤ pos 1 = omega (arith, ints) in
    pruned_cause (terms_of c.args.row.now) c.args.boxes.now c.args.row.now.bound.value c.args.found.least.value c.args.found.spread.value c.args.found.index c.term-t.result c.factor_of-c.result.value
    c.highest-at.result.value c.back_off-slack.result.0.value c.set_at-of_term.result.now full c.back_off-slack.result.1 c.requires.index (c.term-t.ensures.term (pos 0, 0)) c.factor_of-c.ensures
    c.set_at-of_term.ensures c.ranges-2.ensures.valid c.requires.spread c.requires.least c.requires.within is c.highest-at.ensures.value c.highest-at.ensures.low c.highest-at.ensures.high
    c.back_off-slack.ensures.paid c.back_off-slack.ensures.left c.back_off-slack.ensures.up c.back_off-slack.ensures.down
