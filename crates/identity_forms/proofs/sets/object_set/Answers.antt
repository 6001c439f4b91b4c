use Rattle.std.proofs.Common.{◌∙◌, ℤ, List, pos, ap}
use Rattle.identity_forms.proofs.SetLaws.{is_among, any_number}
use Rattle.identity_forms.proofs.sets.object_set.Goals as goal

pub returns : goal.returns
returns c n =
    c.in_ok-set.ensures (pos n) ∙ ap (λ (z : List ℤ). is_among z (pos n)) (c.deref.ensures.value ∙ c.in_ok-values.ensures) ∙ any_number n c.args.objects.now
