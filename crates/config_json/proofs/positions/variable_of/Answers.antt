use Rattle.std.proofs.Common.{◌∙◌, ◌<◌, length, sym, ap, subst}
use Rattle.std.specs.Prelude.{slice_get}
use Rattle.class_table.specs.Outline.{Outline}
use Rattle.object_alloc.specs.Variables.{variables_of}
use Rattle.config_json.proofs.Known.{variables_told, variable_told}
use Rattle.config_json.proofs.positions.variable_of.Goals as goal

pub attribute-requires-clause-attribute : goal.attribute-requires-clause-attribute
attribute-requires-clause-attribute c =
    let are =
    variables_told c.args.objects.now c.table-table.result.now c.args.owner c.in-Some.n
    c.class.result c.table-table.ensures.table c.in-Some.is c.requires.owner
    c.class.ensures.class in
    subst (λ vs. c.args.k < length vs) are c.requires.attribute

pub returns-in-Some-clause-variable : goal.returns-in-Some-clause-variable
returns-in-Some-clause-variable c =
    let are =
    variables_told c.args.objects.now c.table-table.result.now c.args.owner c.in-Some.n
    c.class.result c.table-table.ensures.table c.in-Some.is c.requires.owner
    c.class.ensures.class in
    ap (λ vs. slice_get vs c.args.k) are
    ∙ variable_told _ c.args.k _ _ (subst (λ vs. c.args.k < length vs) are c.requires.attribute)
    c.attribute.ensures.name c.attribute.ensures.shape

pub returns-in-None-clause-variable : goal.returns-in-None-clause-variable
returns-in-None-clause-variable c =
    let are =
    ap (variables_of c.args.objects.now) c.in-None.is
    ∙ ap (λ (t : Outline). t.roots) (sym c.table-table.ensures.table) in
    ap (λ vs. slice_get vs c.args.k) are
    ∙ variable_told _ c.args.k _ _ (subst (λ vs. c.args.k < length vs) are c.requires.attribute)
    c.root.ensures.name c.root.ensures.shape
