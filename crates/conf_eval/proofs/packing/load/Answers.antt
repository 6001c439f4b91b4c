use Rattle.std.proofs.Common.{◌+◌, ◌+ℤ◌, ap, sym, ◌∙◌, drop, map}
use Rattle.conf_eval.specs.Meaning.{load}
use Rattle.conf_eval.specs.Packing.{item_view}
use Rattle.conf_eval.proofs.PackingLaws.{small_step, sum_step, load_next}
use Rattle.conf_eval.proofs.packing.load.Goals as goal

pub plus-sum-requires : goal.plus-sum-requires
plus-sum-requires c =
    let bin = c.args.bin.now in
    let items = map item_view c.args.items.now in
    let rest = load bin (drop (c.loop-item.item-index + 1) items) in
    let split = load_next bin c.args.items.now c.loop-item.item-index c.item-item.result c.loop-item-test.true c.item-item.is in
    record {
      small = small_step c.loop-item.sum.value c.size_at.result.value rest (load bin (drop c.loop-item.item-index items)) (load bin items) (split ∙ ap (λ v. v +ℤ rest) (sym c.size_at.ensures.size)) c.loop-item.invariant (c.requires.small (c.loop-item.item-index + 1)) (c.requires.small 0);
    }

pub loop-item-preserved : goal.loop-item-preserved
loop-item-preserved c =
    let bin = c.args.bin.now in
    let items = map item_view c.args.items.now in
    let rest = load bin (drop (c.loop-item.item-index + 1) items) in
    let split = load_next bin c.args.items.now c.loop-item.item-index c.item-item.result c.loop-item-test.true c.item-item.is in
    sum_step c.loop-item.sum.value c.size_at.result.value rest (load bin (drop c.loop-item.item-index items)) (load bin items) c.plus-sum.result.value (split ∙ ap (λ v. v +ℤ rest) (sym c.size_at.ensures.size)) c.loop-item.invariant c.plus-sum.ensures.sum
