use Rattle.std.proofs.Common.{◌≡◌, ◌<ℤ◌, ◌≤ℤ◌, ◌+ℤ◌, arith, ◌∙◌, sym}
use Rattle.std.proofs.lemmas.Int.{ints}
use Rattle.box_rules.specs.Refuted.{best_room}
use Rattle.box_rules.proofs.PackSteps.{rooms_step, rooms_done, width_step}
use Rattle.box_rules.proofs.packing.rooms_between.Goals as goal

pub loop-last-preserved : goal.loop-last-preserved
loop-last-preserved g c =
    let at = c.loop-last.at.value in let next = c.bin_behind-at.result.value in let last =
    c.args.last.value in
    let items = c.args.items.now in let boxes = g.V.View.boxes c.args.view.now in
    let behind : at <ℤ next = c.bin_behind-at.ensures.behind in
    let upto : next ≤ℤ last = c.bin_behind-at.ensures.upto in
    let step = rooms_step last at next items boxes behind upto
    c.bin_behind-at.ensures.none_before in
    let best : c.best_room-room-in-loop-last.result.value ≡ best_room next items boxes =
    c.best_room-room-in-loop-last.ensures in
    let sum : c.plus-sum-in-loop-last.result.value ≡ c.loop-last.sum.value +ℤ
    c.best_room-room-in-loop-last.result.value = c.plus-sum-in-loop-last.ensures.sum in
    let inv = c.loop-last.invariant.value in
    let w = width_step c.args.first.value at next behind c.loop-last.invariant.begun in
    record {
      value = omega (arith, ints, step, best, sum, inv);
      begun = omega (arith, ints, behind, c.loop-last.invariant.begun);
      order = upto;
      low = omega (arith, ints, w, c.plus-sum-in-loop-last.ensures.low, c.loop-last.invariant.low);
      high = omega (
        arith,
        ints,
        w,
        c.plus-sum-in-loop-last.ensures.high,
        c.loop-last.invariant.high,
      );
    }

pub returns : goal.returns
returns g c =
    let done = rooms_done c.args.last.value c.loop-last.at.value c.args.items.now
    (g.V.View.boxes c.args.view.now) c.loop-last.invariant.order
    (sym c.is_below.ensures ∙ c.loop-last-test.false) in
    omega (arith, ints, done, c.loop-last.invariant.value)
