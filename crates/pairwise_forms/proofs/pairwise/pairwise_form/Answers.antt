use Rattle.std.proofs.Common.{sym, subst}
use Rattle.conf_syntax.specs.declared.tree.QuantKind.{QuantKind}
use Rattle.expr_forms.specs.declared.form.Form.TheVariants as form
use Rattle.quantifier_forms.specs.Quantified.{IsQuantified}
use Rattle.pairwise_forms.proofs.LoadSteps.{item_parts}
use Rattle.pairwise_forms.proofs.QuantifiedTruths.{fit_quantified}
use Rattle.pairwise_forms.proofs.pairwise.pairwise_form.Goals as goal

pub all_fit-requires-clause-parts : goal.all_fit-requires-clause-parts
all_fit-requires-clause-parts c = item_parts c.args.maker.now c.args.kind c.args.parts.now c.requires.parts c.requires.alike (c.requires.sizes c.in-Pack.is)

pub returns-in_ok-t-in-Pack-clause-form : goal.returns-in_ok-t-in-Pack-clause-form
returns-in_ok-t-in-Pack-clause-form c =
    subst (λ (q : QuantKind). IsQuantified c.args.maker.now c.all_fit.new.maker q c.args.parts.now (form.Truth c.in_ok-t-in-Pack.t)) (sym c.in-Pack.is)
    (fit_quantified c.args.maker.now c.all_fit.new.maker c.args.parts.now c.in_ok-t-in-Pack.t c.in_ok-t-in-Pack.ensures.variable c.in_ok-t-in-Pack.ensures.value)
