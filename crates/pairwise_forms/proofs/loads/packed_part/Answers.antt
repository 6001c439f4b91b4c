use Rattle.std.proofs.Common.{List, ap, ◌∙◌, subst}
use Rattle.expr_forms.specs.declared.form.Form.{Form}
use Rattle.pairwise_forms.specs.AlikeParts.{first_form, second_number, third_number}
use Rattle.pairwise_forms.specs.KeyValues.{IsKeyOf}
use Rattle.pairwise_forms.proofs.LoadSteps.{item_is}
use Rattle.pairwise_forms.proofs.loads.packed_part.Goals as goal

pub returns-clause-item : goal.returns-clause-item
returns-clause-item c =
    item_is c.args.maker.now c.first_key.new.maker c.args.p.now _ c.in_ok-place.ensures.adds.grows c.requires.part c.in_ok-kept.ensures
    (subst (λ (fs : List Form). IsKeyOf c.first_key.new.maker (first_form fs) c.in_ok-place.place) c.deref.ensures.value c.in_ok-place.ensures.key)
    (c.in_ok-size.ensures ∙ ap (λ (fs : List Form). second_number fs) c.deref-2.ensures.value)
    (c.in_ok-room.ensures ∙ ap (λ (fs : List Form). third_number fs) c.deref-3.ensures.value)
