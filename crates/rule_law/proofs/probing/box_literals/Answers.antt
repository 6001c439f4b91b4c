use Rattle.std.proofs.Common.{refl}
use Rattle.signed_clause.specs.Clauses.{box_of}
use Rattle.rule_law.proofs.ProbeLaws.{kept_more}
use Rattle.rule_law.proofs.probing.box_literals.Goals as goal

pub loop-x-preserved : goal.loop-x-preserved
loop-x-preserved c = kept_more c.args.domains.now (λ x. box_of c.args.boxes.now x) c.args.vars.now c.loop-x.x-index _ _ _ _ c.loop-x-test.true refl c.in_ok-keep_out_of_box.ensures c.loop-x.invariant
