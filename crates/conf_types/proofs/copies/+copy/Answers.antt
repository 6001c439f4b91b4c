use Rattle.std.proofs.Common.{rules, ap, ◌∙◌}
use Rattle.conf_types.specs.declared.tree.RQuant as rquant
use Rattle.conf_types.specs.TreeOf.{trees_of}
use Rattle.conf_types.proofs.CheckLaws.{rquant_is}
use Rattle.conf_types.proofs.CopyLaws.{quant_copied, body_copied, bodies_copied}
use Rattle.conf_types.proofs.copies.+copy.Goals as goal

pub copy_quant-returns : goal.copy_quant-returns
copy_quant-returns t c =
    record { tree = λ at. rquant_is _ at ∙ search (rules, rquant.the_lemmas) ∙ quant_copied c.args.quant.now at c.in_ok-over.over c.in_ok-filter.filter c.in_ok-body.body.items c.in_ok-over.ensures.tree c.in_ok-filter.ensures.tree (c.in_ok-body.ensures.trees ∙ ap trees_of c.deref.ensures.value) }

pub copy_bodies-loop-expr-preserved : goal.copy_bodies-loop-expr-preserved
copy_bodies-loop-expr-preserved t c =
    body_copied c.args.body.now c.loop-expr.expr-index c.expr-item.result c.in_ok-copy_expr.field-0 c.loop-expr.found.items c.push.new.self.items c.loop-expr-test.true c.expr-item.is c.in_ok-copy_expr.ensures.tree c.in_ok-push.ensures.items ∙ c.loop-expr.invariant

pub copy_bodies-returns : goal.copy_bodies-returns
copy_bodies-returns t c = record { trees = bodies_copied c.args.body.now c.loop-expr.found.items c.loop-expr.expr-index c.loop-expr-test.false c.loop-expr.invariant }
