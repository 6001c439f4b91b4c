use Rattle.std.proofs.Common.{sym, ◌∙◌}
use Rattle.ground_form.specs.Meaning.{clause_vars}
use Rattle.ground_form.proofs.VarLists.{all_literals}
use Rattle.box_view.proofs.EndLaws.{are_sets}
use Rattle.rule_law.proofs.ClauseQuiet.{named_here, clause_quiet}
use Rattle.rule_law.proofs.clause.prune_clause.Goals as goal

pub acts-requires : goal.acts-requires
acts-requires c =
    all_literals c.args.clause.now _ (named_here (clause_vars c.args.clause.now) c.args.domains.now
    c.args.boxes.now c.requires.boxes.size c.requires.well_made.named)

pub returns-else-acts : goal.returns-else-acts
returns-else-acts c =
    let domains = c.args.domains.now in
    let boxes = c.args.boxes.now in
    let clause = c.args.clause.now in
    record {
      answer = clause_quiet boxes clause (are_sets boxes c.requires.boxes.sets)
          c.requires.boxes.some c.requires.well_made.sets
          (named_here (clause_vars clause) domains boxes c.requires.boxes.size
          c.requires.well_made.named)
          (sym c.acts.ensures ∙ c.if-acts.false);
    }
