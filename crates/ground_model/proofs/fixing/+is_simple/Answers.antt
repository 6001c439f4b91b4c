use Rattle.std.proofs.Common.{sym, ap, ◌∙◌}
use Rattle.conf_types.specs.TreeOf.{node_tree}
use Rattle.ground_model.specs.Fixing.{is_simple}
use Rattle.ground_model.proofs.Fixings.{no_simple}
use Rattle.ground_model.proofs.fixing.+is_simple.Goals as goal

pub returns-in-Quant : goal.returns-in-Quant
returns-in-Quant t c = sym (ap (λ n. is_simple (node_tree n c.args.e.now.at)) c.in-Quant.is ∙ no_simple c.in-Quant.field-0.value c.args.e.now.at)
