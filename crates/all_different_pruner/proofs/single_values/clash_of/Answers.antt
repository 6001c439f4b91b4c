use Rattle.all_different_pruner.proofs.SingleLaws.{alone_of}
use Rattle.all_different_pruner.proofs.single_values.clash_of.Goals as goal

pub returns-in-None-clause-none : goal.returns-in-None-clause-none
returns-in-None-clause-none c =
    alone_of c.args.a.value c.args.x c.args.vars.now c.args.boxes.now c.requires.sets c.requires.some c.requires.named c.requires.once c.requires.var c.requires.lies c.in-None.ensures.none
