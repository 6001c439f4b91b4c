use Rattle.std.proofs.Common.{rules, ap, ◌∙◌}
use Rattle.conf_types.specs.declared.tree.RQuant as rquant
use Rattle.conf_types.specs.TreeOf.{node_tree}
use Rattle.conf_types.proofs.CheckLaws.{rquant_is, quantifier_read}
use Rattle.conf_types.proofs.rules.quantifier.Goals as goal

pub returns-clause-read : goal.returns-clause-read
returns-clause-read c = λ name_at r f b h hf hb.
    let e = c.in_ok-quant.ensures.ok in
    let x = c.plain.result in
    let made = ap (node_tree x.expr.node) c.plain.ensures.at ∙ ap (λ n. node_tree n c.args.at) c.plain.ensures.node ∙ rquant_is c.in_ok-quant.quant.value c.args.at ∙ search (rules, rquant.the_lemmas, e) in
    quantifier_read c.args.over x c.args.kind c.args.at name_at r f b c.args.filter c.args.body.items h c.requires.met hf hb made (c.plain.ensures.kind ∙ c.quant_result.ensures) c.plain.ensures.first c.plain.ensures.literal
