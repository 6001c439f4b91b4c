use Rattle.std.proofs.Common.{[], ◌+◌, ◌*◌, ℕ, Bool, ◌+ℤ◌, length, drop, take, sym, ap, ◌∙◌, arith}
use Rattle.object_alloc.specs.Changes.{is_changed}
use Rattle.ground_form.specs.Meaning.{bit}
use Rattle.form_build.proofs.Growth.{adds_nothing, defines_more, world_before}
use Rattle.reconfigure.specs.Counting.{count_at}
use Rattle.reconfigure.proofs.LeafLaws.{not_empty}
use Rattle.reconfigure.proofs.SumLaws.{count_kept, count_wider}
use Rattle.reconfigure.proofs.changed.count_leaf.Goals as goal

pub returns-then-is_empty-clause-adds : goal.returns-then-is_empty-clause-adds
returns-then-is_empty-clause-adds c = adds_nothing [] c.args.maker.now

pub returns-clause-value : goal.returns-clause-value
returns-clause-value c a w =
    let grows = c.in_ok-add_truth.ensures.adds.grows in
    c.in_ok-add_truth.ensures.value a w
    ∙ ap (λ (b : Bool). count_at c.args.count.now a +ℤ bit b)
    (c.in_ok-t.ensures.value a (world_before c.changed.new.maker c.add_truth.new.maker a grows w)
    ∙ ap (λ (n : ℕ). is_changed c.args.hints.now (drop c.args.first (take n a))) (sym grows.search))

pub returns-clause-numbers : goal.returns-clause-numbers
returns-clause-numbers c n h =
    let some = not_empty (length c.args.hints.now) c.is_empty.result c.is_empty.ensures c.if-is_empty.false in
    count_wider c.add_truth.new.maker.domains (n + 2) (n + 2 * length c.args.hints.now) c.add_truth.new.count (omega (arith, some))
    (c.in_ok-add_truth.ensures.numbers n (count_kept c.args.maker.now c.changed.new.maker n c.args.count.now c.in_ok-t.ensures.adds.grows h))

pub returns-clause-adds : goal.returns-clause-adds
returns-clause-adds c = defines_more c.args.maker.now c.changed.new.maker c.add_truth.new.maker c.in_ok-t.ensures.adds c.in_ok-add_truth.ensures.adds
