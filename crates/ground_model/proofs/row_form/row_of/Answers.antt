use Rattle.std.proofs.Common.{List, ℤ, Option, IfSome, subst}
use Rattle.conf_types.specs.TreeOf.{tree_of}
use Rattle.form_build.proofs.Growth.{defines_more}
use Rattle.expr_forms.proofs.Configured.{cells_still}
use Rattle.quantifier_forms.specs.declared.part.Part.{Part}
use Rattle.packed_rows.specs.declared.row.Row.{Row}
use Rattle.ground_model.specs.declared.row_form.Summands.{Summands}
use Rattle.ground_model.specs.Adding.{shares_of, counts, AddsUp, IsRowOf}
use Rattle.ground_model.proofs.SumRows.{some_weaker, row_is}
use Rattle.ground_model.proofs.row_form.row_of.Goals as goal

pub form_at-requires-clause-cells : goal.form_at-requires-clause-cells
form_at-requires-clause-cells c = cells_still c.args.scene.now.objects.now c.args.maker.now c.parts_of_sum.new.maker c.in_ok-found.ensures.adds.grows c.requires.cells

pub returns-in_default-fixed_number-clause-adds : goal.returns-in_default-fixed_number-clause-adds
returns-in_default-fixed_number-clause-adds c =
    defines_more c.args.maker.now c.parts_of_sum.new.maker c.form_at.new.maker c.in_ok-found.ensures.adds c.in_ok-f.ensures.made.adds

pub returns-clause-row : goal.returns-clause-row
returns-clause-row c =
    let scene = c.args.scene.now in
    let o = scene.objects.now in
    let known = scene.known.now in
    let this = scene.this in
    let vars = scene.vars.now in
    let mid = c.parts_of_sum.new.maker in
    let new = c.form_at.new.maker in
    let found = c.in-Some.found in
    let adds = subst (λ (z : Option Summands). IfSome z (λ x. AddsUp o mid known (tree_of c.args.sum.now) this vars x.kind x.parts.items)) c.in-Some.is c.in_ok-found.ensures.sum in
    some_weaker (λ (r : Row). (a : List ℤ) → counts r c.in-Some-fixed_number.room.value (shares_of found.kind c.as_slice.result.now a) a) (λ (r : Row). IsRowOf o new known (tree_of c.args.sum.now) (tree_of c.args.most.now) this vars r) c.in_ok-row.row
    (λ r h. row_is o known this vars mid new (tree_of c.args.sum.now) (tree_of c.args.most.now) found.kind found.parts.items c.in_ok-f.f c.number_of-number.result c.in-Some-fixed_number.room.value r
    c.in_ok-f.ensures.made.adds.grows adds c.in_ok-f.ensures.made.form c.number_of-number.ensures.number c.in-Some-fixed_number.ensures
    (subst (λ (ps : List Part). (a : List ℤ) → counts r c.in-Some-fixed_number.room.value (shares_of found.kind ps a) a) c.as_slice.ensures.value h))
    c.in_ok-row.ensures

pub returns-clause-adds : goal.returns-clause-adds
returns-clause-adds c =
    defines_more c.args.maker.now c.parts_of_sum.new.maker c.form_at.new.maker c.in_ok-found.ensures.adds c.in_ok-f.ensures.made.adds
