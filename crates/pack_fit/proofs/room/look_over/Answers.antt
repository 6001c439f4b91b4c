use Rattle.std.proofs.Common.{◌≡◌, ◌+ℤ◌, pos, ap, sym, ◌∙◌, subst, arith, ℤ, true}
use Rattle.pack_fit.specs.Packing.{all_fit}
use Rattle.pack_fit.specs.Survey.{hits}
use Rattle.pack_fit.proofs.SurveyWalk.{begun_slot, ended_slot, bin_slot, count_here, count_fits, count_fixed, count_goes, count_next, fit_next, room_next, sum_low, sum_high}
use Rattle.pack_fit.proofs.room.look_over.Goals as goal

pub overflow_add-count : goal.overflow_add-count
overflow_add-count c =
    let begun = begun_slot c.index.result.now _ c.loop-d.d c.args.first.value c.args.items.now c.args.boxes.now c.index.ensures (omega arith) c.requires.begun in
    let fits = count_fits c.loop-d.carried c.index.result.now (c.args.first.value +ℤ pos c.loop-d.d) c.args.items.now c.args.boxes.now c.requires.sets c.requires.few c.loop-d.invariant.carried begun in
    grind arith

pub unplaceable_here-requires-clause-count : goal.unplaceable_here-requires-clause-count
unplaceable_here-requires-clause-count c =
    let begun = begun_slot c.index.result.now _ c.loop-d.d c.args.first.value c.args.items.now c.args.boxes.now c.index.ensures (omega arith) c.requires.begun in
    count_here c.loop-d.carried c.index.result.now (c.args.first.value +ℤ pos c.loop-d.d) c.args.items.now c.args.boxes.now c.requires.sets c.loop-d.invariant.carried begun
    ∙ ap (λ (v : ℤ). hits v c.args.items.now c.args.boxes.now) (sym c.behind-at.ensures)

pub least_second-requires : goal.least_second-requires
least_second-requires c =
    let begun = begun_slot c.index.result.now _ c.loop-d.d c.args.first.value c.args.items.now c.args.boxes.now c.index.ensures (omega arith) c.requires.begun in
    let bin = bin_slot c.index-in-loop-d-2.result.now _ c.loop-d.d c.args.first.value c.args.items.now c.args.boxes.now c.index-in-loop-d-2.ensures (omega arith) c.requires.bins in
    let count = count_here c.loop-d.carried c.index.result.now (c.args.first.value +ℤ pos c.loop-d.d) c.args.items.now c.args.boxes.now c.requires.sets c.loop-d.invariant.carried begun in
    count_fixed c.index-in-loop-d-2.result.now _ (c.args.first.value +ℤ pos c.loop-d.d) c.args.items.now c.args.boxes.now c.requires.sets bin count

pub overflow_sub-carried : goal.overflow_sub-carried
overflow_sub-carried c =
    let begun = begun_slot c.index.result.now _ c.loop-d.d c.args.first.value c.args.items.now c.args.boxes.now c.index.ensures (omega arith) c.requires.begun in
    let ended = ended_slot c.index-in-loop-d-3.result.now _ c.loop-d.d c.args.first.value c.args.items.now c.args.boxes.now c.index-in-loop-d-3.ensures (omega arith) c.requires.ended in
    let count = count_here c.loop-d.carried c.index.result.now (c.args.first.value +ℤ pos c.loop-d.d) c.args.items.now c.args.boxes.now c.requires.sets c.loop-d.invariant.carried begun in
    count_goes _ c.index-in-loop-d-3.result.now (c.args.first.value +ℤ pos c.loop-d.d) c.args.items.now c.args.boxes.now c.requires.sets count ended

pub loop-d-preserved : goal.loop-d-preserved
loop-d-preserved c =
    let first = c.args.first.value in let d = c.loop-d.d in let items = c.args.items.now in let boxes = c.args.boxes.now in
    let begun = begun_slot c.index.result.now _ d first items boxes c.index.ensures (omega arith) c.requires.begun in
    let ended = ended_slot c.index-in-loop-d-3.result.now _ d first items boxes c.index-in-loop-d-3.ensures (omega arith) c.requires.ended in
    let bin = bin_slot c.index-in-loop-d-2.result.now _ d first items boxes c.index-in-loop-d-2.ensures (omega arith) c.requires.bins in
    let count = count_here c.loop-d.carried c.index.result.now (first +ℤ pos d) items boxes c.requires.sets c.loop-d.invariant.carried begun in
    let here : all_fit (first +ℤ pos d) items items boxes ≡ true = subst (λ (v : ℤ). all_fit v items items boxes ≡ true) c.behind-at.ensures c.in_default.ensures.none in
    record {
      fit = fit_next first d items boxes c.loop-d.invariant.fit here;
      room = room_next c.index-in-loop-d-2.result.now first d items boxes _ c.args.limits.floor.value c.loop-d.sum.value c.plus-sum.result.value c.least_second.result.value c.requires.sets bin count c.requires.floor c.least_second.ensures c.plus-sum.ensures.sum c.loop-d.invariant.room;
      low = sum_low c.index-in-loop-d-2.result.now _ c.args.limits.floor.value c.loop-d.sum.value c.plus-sum.result.value c.least_second.result.value c.least_second.ensures c.plus-sum.ensures.sum c.loop-d.invariant.low;
      high = sum_high c.index-in-loop-d-2.result.now (first +ℤ pos d) _ items boxes c.args.limits.floor.value c.loop-d.sum.value c.plus-sum.result.value c.least_second.result.value d bin c.requires.floor c.least_second.ensures c.plus-sum.ensures.sum c.loop-d.invariant.high;
      carried = count_next _ c.index-in-loop-d-3.result.now first d items boxes c.requires.sets count ended;
      upto = omega arith;
    }
