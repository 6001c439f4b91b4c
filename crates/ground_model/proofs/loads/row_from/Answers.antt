use Rattle.std.proofs.Common.{List, ℤ, take, Option, IfSome, ◌+ℤ◌, subst}
use Rattle.std.proofs.lemmas.List.{take_all}
use Rattle.packed_rows.specs.declared.row.Row.{Row}
use Rattle.quantifier_forms.specs.declared.part.Part.{Part}
use Rattle.quantifier_forms.specs.PartValues.{share}
use Rattle.ground_model.specs.Adding.{shares_of, counts}
use Rattle.ground_model.proofs.RowLaws.{part_added, none_counted}
use Rattle.ground_model.proofs.loads.row_from.Goals as goal

pub loop-p-init : goal.loop-p-init
loop-p-init c a = none_counted c.empty_row-row.result c.args.room.value a c.empty_row-row.ensures.loads c.empty_row-row.ensures.room

pub loop-p-preserved : goal.loop-p-preserved
loop-p-preserved c a =
    part_added c.args.kind c.args.parts.now c.loop-p.p-index c.p-item.result c.in-Some.more c.args.room.value a c.loop-p-test.true c.p-item.is
    (subst (λ (o : Option Row). IfSome o (λ r. (room sum : ℤ) (b : List ℤ) → counts c.loop-p.row room sum b → counts r room (sum +ℤ share c.args.kind c.p-item.result b) b)) c.in-Some.is c.in_ok-added.ensures
    c.args.room.value (shares_of c.args.kind (take c.loop-p.p-index c.args.parts.now) a) a (c.loop-p.invariant a))

pub returns : goal.returns
returns c a = subst (λ (ps : List Part). counts c.loop-p.row c.args.room.value (shares_of c.args.kind ps a) a) (take_all c.loop-p.p-index c.args.parts.now c.loop-p-test.false) (c.loop-p.invariant a)
