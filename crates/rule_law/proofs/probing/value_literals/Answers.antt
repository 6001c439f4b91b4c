use Rattle.std.proofs.Common.{refl}
use Rattle.signed_clause.specs.Clauses.{box_of}
use Rattle.box_view.specs.Views.{fixing}
use Rattle.rule_law.proofs.ProbeLaws.{kept_more}
use Rattle.rule_law.proofs.probing.value_literals.Goals as goal

pub loop-x-preserved : goal.loop-x-preserved
loop-x-preserved c = kept_more c.args.domains.now (λ x. box_of (fixing c.args.boxes.now c.args.var c.args.value.value) x) c.args.vars.now c.loop-x.x-index _ _ _ _ c.loop-x-test.true refl c.in_ok-keep_out_of_fixed.ensures c.loop-x.invariant
