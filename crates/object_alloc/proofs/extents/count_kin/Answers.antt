use Rattle.std.proofs.Common.{rules, ◌≡◌, ◌+◌, ◌-◌, suc, length, refl, sym, ◌∙◌, arith, Some, slice_index_or, slice_set}
use Rattle.class_table.specs.Outline.{parent_in}
use Rattle.object_alloc.proofs.ExtentLaws.{count_start, count_next, count_last, count_end, count_most}
use Rattle.object_alloc.proofs.extents.count_kin.Goals as goal

pub loop-step-init : goal.loop-step-init
loop-step-init c =
    let cs = c.args.table.now.classes in
    record {
      class = c.requires.class;
      count = search rules;
      counts = λ ranks. count_start cs ranks c.args.class (length cs - 0) c.args.sizes.now (slice_set c.args.sizes.now c.args.class (slice_index_or c.args.sizes.now c.args.class 0 + 1)) (slice_index_or c.args.sizes.now c.args.class 0 + 1) (omega arith) (omega (arith, c.requires.class, c.requires.count)) refl refl;
    }

pub overflow_add-sizes-in-Some : goal.overflow_add-sizes-in-Some
overflow_add-sizes-in-Some c =
    let cs = c.args.table.now.classes in
    let up : parent_in cs c.loop-step.at ≡ Some c.in-Some.parent = sym c.parent.ensures.parent ∙ c.in-Some.is in
    let there = c.requires.sound.parents c.loop-step.at c.in-Some.parent up in
    let most = count_most cs c.requires.sound.ranks c.args.class c.loop-step.at (length cs - c.loop-step._step) c.args.sizes.now c.loop-step.sizes (c.loop-step.invariant.counts c.requires.sound.ranks) c.requires.few c.in-Some.parent there in
    omega (arith, most)

pub returns-in-None : goal.returns-in-None
returns-in-None c =
    let cs = c.args.table.now.classes in
    record { each = count_last cs c.requires.sound.ranks c.args.class c.loop-step.at (length cs - c.loop-step._step) c.args.sizes.now c.loop-step.sizes (sym c.parent.ensures.parent ∙ c.in-None.is) (c.loop-step.invariant.counts c.requires.sound.ranks) }

pub loop-step-preserved : goal.loop-step-preserved
loop-step-preserved c =
    let cs = c.args.table.now.classes in
    let up : parent_in cs c.loop-step.at ≡ Some c.in-Some.parent = sym c.parent.ensures.parent ∙ c.in-Some.is in
    let there = c.requires.sound.parents c.loop-step.at c.in-Some.parent up in
    let next : length cs - c.loop-step._step ≡ suc (length cs - (c.loop-step._step + 1)) = omega (arith, c.loop-step-test.true, c.class_count-step-end.ensures.count) in
    record {
      class = there;
      count = search rules;
      counts = λ ranks. count_next cs ranks c.args.class c.loop-step.at c.in-Some.parent (length cs - (c.loop-step._step + 1)) (length cs - c.loop-step._step) c.args.sizes.now c.loop-step.sizes (slice_set c.loop-step.sizes c.in-Some.parent (slice_index_or c.loop-step.sizes c.in-Some.parent 0 + 1)) (slice_index_or c.loop-step.sizes c.in-Some.parent 0 + 1) next (c.loop-step.invariant.counts ranks) up (omega (arith, there, c.loop-step.invariant.count)) refl refl;
    }

pub returns : goal.returns
returns c =
    let cs = c.args.table.now.classes in
    record { each = count_end cs c.requires.sound.ranks c.args.class c.loop-step.at (length cs - c.loop-step._step) c.args.sizes.now c.loop-step.sizes (omega (arith, c.loop-step-test.false, c.class_count-step-end.ensures.count)) (c.loop-step.invariant.counts c.requires.sound.ranks) }
