use Rattle.std.proofs.Common.{rules, ◌∙◌}
use Rattle.conf_syntax.specs.declared.tree.Quant as quant
use Rattle.conf_parse.proofs.Placing.{made_reads}
use Rattle.conf_parse.proofs.Rows.{quant_is}
use Rattle.conf_parse.proofs.quantifier.Opening.made.Goals as goal

pub returns-clause-tree : goal.returns-clause-tree
returns-clause-tree c = quant_is c.in_ok-new.field-0.value ∙ (let e = c.in_ok-new.ensures.ok in search (rules, quant.the_lemmas, e))

pub returns-clause-places : goal.returns-clause-places
returns-clause-places c =
    let e = c.in_ok-new.ensures.ok in
    made_reads c.args.place c.args.self c.args.body.items c.in_ok-new.field-0 (search (rules, quant.the_lemmas, e)) (search (rules, quant.the_lemmas, e)) (search (rules, quant.the_lemmas, e)) (search (rules, quant.the_lemmas, e)) (search (rules, quant.the_lemmas, e))
