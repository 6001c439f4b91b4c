use Rattle.std.proofs.Common.{◌<◌, length, rules, arith}
use Rattle.std.proofs.lemmas.Grind.{common_steps}
use Rattle.conf_types.proofs.TypedParts.{constraints_typed}
use Rattle.conf_types.proofs.ProgramLaws.{in_list}
use Rattle.conf_types.proofs.checker.check_list.Goals as goal

pub returns-in-Err-clause-fault : goal.returns-in-Err-clause-fault
returns-in-Err-clause-fault c =
    let within : c.loop-expr.expr-index < length c.args.list.now = search rules in
    in_list c.args.table.now c.in-Err.fault c.args.class c.args.list.now c.loop-expr.expr-index c.expr-item.result within c.expr-item.is c.loop-expr.invariant.right c.in-Err.ensures.fault

pub loop-expr-preserved : goal.loop-expr-preserved
loop-expr-preserved c =
    record {
      constraints = grind (arith, common_steps);
      right = grind (arith, common_steps);
      typed = λ a. constraints_typed c.args.table.now c.loop-expr.found.items c.push.new.self.items c.in-Ok.constraint c.in_ok-push-in-Ok.ensures.items c.in-Ok.ensures.typed (c.loop-expr.invariant.typed a);
      depth = grind (arith, common_steps);
    }
