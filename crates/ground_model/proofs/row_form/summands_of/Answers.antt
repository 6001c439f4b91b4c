use Rattle.std.proofs.Common.{[], refl, sym, ◌∙◌}
use Rattle.form_build.proofs.Growth.{adds_nothing}
use Rattle.ground_model.proofs.SumRows.{quant_adds_up}
use Rattle.ground_model.proofs.row_form.summands_of.Goals as goal

pub returns-then-not-adds_up-clause-adds : goal.returns-then-not-adds_up-clause-adds
returns-then-not-adds_up-clause-adds c = adds_nothing [] c.args.maker.now

pub returns-clause-sum : goal.returns-clause-sum
returns-clause-sum c =
    let scene = c.args.scene.now in
    quant_adds_up scene.objects.now scene.known.now scene.this scene.vars.now c.own_parts_at.new.maker _ c.args.quant.now 0 c.in_ok-parts.parts.items refl (sym c.adds_up.ensures ∙ c.if-not-adds_up.false) c.in_ok-parts.ensures.parts
