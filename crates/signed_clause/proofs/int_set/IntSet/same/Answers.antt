use Rattle.std.proofs.Common.{◌∙◌, sym}
use Rattle.std.proofs.lemmas.Slice.Eq.{slice_eq-Decides}
use Rattle.signed_clause.proofs.SetFacts.{pair_decides, same_law}
use Rattle.signed_clause.proofs.int_set.IntSet.same.Goals as goal

pub returns-clause-list : goal.returns-clause-list
returns-clause-list c =
    let decides = slice_eq-Decides pair_decides c.ranges-2.result.now c.ranges-3.result.now c.eq.result c.eq.ensures in
    let a = c.ranges-2.ensures.items in let b = c.ranges-3.ensures.items in
    ((λ h. sym a ∙ decides.0 h ∙ b), (λ e. decides.1 (a ∙ e ∙ sym b)))

pub returns-clause-values : goal.returns-clause-values
returns-clause-values c =
    let list = returns-clause-list c in let law = same_law c.args.self.now c.args.o.now c.ranges-2.ensures.valid c.ranges-3.ensures.valid in
    ((λ h. law.0 (list.0 h)), (λ h. list.1 (law.1 h)))
