use Rattle.std.proofs.Common.{◌∙◌, sym}
use Rattle.std.proofs.lemmas.Slice.Eq.{slice_eq-Decides}
use Rattle.ground_form.proofs.Equal.{part_decides}
use Rattle.ground_form.proofs.lists.Parts.same.Goals as goal

pub returns : goal.returns
returns c =
    let decides = slice_eq-Decides part_decides c.items.result.now c.items-2.result.now c.eq.result c.eq.ensures in
    let a = c.items.ensures in let b = c.items-2.ensures in
    ((λ h. sym a ∙ decides.0 h ∙ b), (λ e. decides.1 (a ∙ e ∙ sym b)))
