use Rattle.std.proofs.Common.{ℕ, drop, take, sym, ap, ◌∙◌}
use Rattle.object_alloc.specs.Changes.{is_changed}
use Rattle.form_build.proofs.Growth.{world_before}
use Rattle.reconfigure.proofs.changed.changed.Goals as goal

pub returns-clause-value : goal.returns-clause-value
returns-clause-value c a w =
    let grows = c.in_ok-t.ensures.adds.grows in
    c.in_ok-t.ensures.value a w
    ∙ c.in_ok-d.ensures.value a (world_before c.args.maker.now c.truth_of.new.m a grows w)
    ∙ ap (λ (n : ℕ). is_changed c.args.hints.now (drop c.args.first (take n a))) (sym grows.search)
