use Rattle.std.proofs.Common.{Some, arith, sym, ap, ◌∙◌, subst}
use Rattle.object_alloc.specs.Parts.{IsElement}
use Rattle.object_alloc.specs.Paths.{index_text}
use Rattle.object_alloc.proofs.StepLaws.{one_index}
use Rattle.object_alloc.proofs.finding.element_named.Goals as goal

pub returns-then-element-count-clause-named : goal.returns-then-element-count-clause-named
returns-then-element-count-clause-named c i h e t =
    ap Some (one_index c.in_ok-element-in-Many.element i (omega arith) h (c.in_ok-element-in-Many.ensures.some ∙ sym t ∙ ap (λ s. index_text s i) c.in-Many.is))

pub returns-else-element-count-clause-named : goal.returns-else-element-count-clause-named
returns-else-element-count-clause-named c i h e t =
    let same = one_index c.in_ok-element-in-Many.element i (omega arith) h (c.in_ok-element-in-Many.ensures.some ∙ sym t ∙ ap (λ s. index_text s i) c.in-Many.is) in
    let low = subst (λ s. IsElement s i) c.in-Many.is e in
    absurd (omega (arith, same, low))
