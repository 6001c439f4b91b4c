use Rattle.std.proofs.Common.{◌∙◌, ap, sym}
use Rattle.conf_types.specs.TreeOf.{node_tree}
use Rattle.conf_eval.proofs.EvalLaws.{quant_is}
use Rattle.ground_expr.specs.Fixed.{is_fixed_path}
use Rattle.ground_expr.proofs.constraints.+is_fixed_path.Goals as goal

pub returns-in-Quant-clause-path : goal.returns-in-Quant-clause-path
returns-in-Quant-clause-path t c =
    let at = c.args.e.now.at in
    sym (ap is_fixed_path (ap (λ n. node_tree n at) c.in-Quant.is ∙ quant_is c.in-Quant.field-0.value at))
