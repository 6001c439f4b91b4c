use Rattle.std.proofs.Common.{subst, sym}
use Rattle.ground_form.specs.declared.con.Con.TheVariants.{ClauseCon}
use Rattle.ground_form.specs.Meaning.{clause_vars}
use Rattle.rule_law.specs.Answers.{IsPruning}
use Rattle.box_view.proofs.EndLaws.{are_sets}
use Rattle.rule_law.proofs.ClauseQuiet.{named_here, clause_pruning}
use Rattle.rule_law.proofs.clause.own_reason.Goals as goal

pub returns : goal.returns
returns c =
    let domains = c.args.domains.now in
    let boxes = c.args.boxes.now in
    let clause = c.args.clause.now in
    let made = c.requires.well_made in
    record {
      pruning = subst (IsPruning (ClauseCon clause) domains boxes) (sym c.in_ok-copy.ensures.list)
          (clause_pruning domains boxes clause (are_sets domains c.requires.sets) made.sets
          (named_here (clause_vars clause) domains boxes c.requires.boxes.size made.named)
          c.requires.acts);
    }
