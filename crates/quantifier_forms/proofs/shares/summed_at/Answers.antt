use Rattle.std.proofs.Common.{[], List, ap, ◌∙◌}
use Rattle.form_build.proofs.Growth.{adds_nothing}
use Rattle.expr_forms.specs.declared.form.Form.{Form}
use Rattle.quantifier_forms.specs.PartValues.{first_number}
use Rattle.quantifier_forms.proofs.Narrowness.{first_share}
use Rattle.quantifier_forms.proofs.shares.summed_at.Goals as goal

pub returns-in_ok-r-in-Some-clause-sum : goal.returns-in_ok-r-in-Some-clause-sum
returns-in_ok-r-in-Some-clause-sum c first h =
    first_share c.args.maker.now.domains c.sum_where.new.maker.domains first c.args.p.now c.in-Some.f.now c.in_ok-r-in-Some.r
    (c.in-Some.ensures ∙ ap (λ (fs : List Form). first_number fs) c.deref.ensures.value) c.in_ok-r-in-Some.ensures.sum h

pub returns-in-None-clause-adds : goal.returns-in-None-clause-adds
returns-in-None-clause-adds c = adds_nothing [] c.args.maker.now
