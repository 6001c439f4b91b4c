use Rattle.std.proofs.Common.{None, ap, ◌∙◌}
use Rattle.std.proofs.lemmas.List.Sorted.{IsNonDecreasingBy-from_sort}
use Rattle.rule_law.specs.Reasons.{has_number}
use Rattle.rule_law.specs.Repeats.{is_repeated, doubles_after}
use Rattle.rule_law.proofs.Repeated.{repeated_in_order}
use Rattle.rule_law.proofs.repeats.find_repeated.Goals as goal

pub returns : goal.returns
returns c x =
    let repeated = repeated_in_order c.in_ok-sorted.sorted.items c.sort_unstable.new.self.items c.sort_unstable.ensures.permutation (IsNonDecreasingBy-from_sort (λ n. n) c.sort_unstable.new.self.items c.sort_unstable.ensures.sorted) x in
    c.distinct.ensures.same x ∙ ap (has_number x) (c.in_ok-found.ensures ∙ ap (doubles_after None) c.as_slice.ensures.value) ∙ repeated ∙ ap (is_repeated x) c.in_ok-sorted.ensures
