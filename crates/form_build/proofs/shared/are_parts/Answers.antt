use Rattle.std.proofs.Common.{◌∙◌, sym}
use Rattle.std.proofs.lemmas.Slice.Eq.{slice_eq-Decides}
use Rattle.ground_form.proofs.Equal.{part_decides}
use Rattle.form_build.proofs.shared.are_parts.Goals as goal

pub returns : goal.returns
returns c =
    let decides = slice_eq-Decides part_decides c.items.result.now _ c.eq.result c.eq.ensures in
    ((λ h. sym c.items.ensures ∙ decides.0 h), (λ e. decides.1 (c.items.ensures ∙ e)))
