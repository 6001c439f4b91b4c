use Rattle.std.proofs.Common.{rules, sym, subst}
use Rattle.std.proofs.lemmas.List.Sorted.{IsNonDecreasingBy-from_sort_by_key}
use Rattle.signed_clause.specs.Clauses.{Literals}
use Rattle.rule_law.specs.Answers.{IsPruning}
use Rattle.rule_law.proofs.Reasoning.{reason_form, reason_pruning, tested_form}
use Rattle.rule_law.proofs.explain.sorted_pruning.Goals as goal

-- src/explain.rt:47:19
pub unreachable-requires : goal.unreachable-requires
unreachable-requires c =
    let up = IsNonDecreasingBy-from_sort_by_key (λ l. l.0) _ c.sort_unstable_by_key.ensures.sorted (λ a r q k. search rules) in
    let form = reason_form _ _ _ _ _ c.requires.reason c.sort_unstable_by_key.ensures.permutation up in
    let no = c.in-Err.ensures.variant.1 (tested_form 0 _ form) in absurd cc

-- src/explain.rt:35:1
pub returns : goal.returns
returns c =
    let up = IsNonDecreasingBy-from_sort_by_key (λ l. l.0) _ c.sort_unstable_by_key.ensures.sorted (λ a r q k. search rules) in
    let form = reason_form _ _ _ _ _ c.requires.reason c.sort_unstable_by_key.ensures.permutation up in
    record { pruning = subst (λ (ls : Literals). IsPruning c.args.con.now c.args.domains.now c.args.boxes.now ls) (sym c.in-Ok.ensures.ok) (reason_pruning _ _ _ _ _ c.requires.reason c.sort_unstable_by_key.ensures.permutation form) }
