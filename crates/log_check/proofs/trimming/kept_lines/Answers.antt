use Rattle.std.proofs.Common.{ℕ, List, [], ◌∷◌, ◌++◌, ◌∙◌, ap, cond, false}
use Rattle.std.specs.Prelude.{slice_index_or}
use Rattle.log_check.specs.Trimmed.{renumbered, trimmed_from}
use Rattle.log_check.proofs.Renumbering.{kept_more}
use Rattle.log_check.proofs.trimming.kept_lines.Goals as goal

pub loop-k-preserved : goal.loop-k-preserved
loop-k-preserved c =
    let g = c.args.g.now in
    let x = c.index-lines-k.result in
    let before = c.loop-k.invariant in
    let longer = c.in_ok-push_kept.ensures ∙ ap (λ (ns : List ℕ). c.loop-k.kept.items ++ cond (slice_index_or c.args.needed.now c.loop-k.k false) (renumbered ns x ∷ []) []) c.deref.ensures.value in
    let step = kept_more g c.args.lines.now c.loop-k.k x c.args.needed.now c.loop-k.numbers.items c.push_numbers.new.numbers.items c.loop-k.next c.in_ok-next.next c.count_clauses.result
    c.loop-k.kept.items c.push_kept.new.kept.items (trimmed_from g [] 0 c.args.lines.now) c.loop-k-test.true c.index-lines-k.is before.needed c.count_clauses.ensures
    longer c.in_ok-next.ensures.numbers c.in_ok-next.ensures.next before.kept in
    record { needed = step.0; bound = c.in_ok-next.ensures.bound; kept = step.1 }
