use Rattle.rule_law.proofs.CutToLaws.{law_pruning}
use Rattle.rule_law.proofs.narrow.cut_says_the_same.Goals as goal

pub returns-clause-pruning : goal.returns-clause-pruning
returns-clause-pruning c = law_pruning c.args.con.now c.args.domains.now c.args.boxes.now
    c.args.c.now c.requires.sets c.requires.boxes c.literals.ensures.form
