use Rattle.std.proofs.Common.{◌<◌, length, ap, ◌∙◌, arith, get_or}
use Rattle.std.proofs.lemmas.List.Elements.{Contains-get_or}
use Rattle.class_table.specs.Outline.{Outline}
use Rattle.object_alloc.specs.declared.object.Object.{Object}
use Rattle.object_alloc.specs.Walk.{objects}
use Rattle.object_alloc.proofs.GroupLaws.{any_item}
use Rattle.object_alloc.proofs.objects.Objects.class.Goals as goal

within : (c : goal.After-index) → c.args.object < length c.self.inside.objects.items
within c = omega (arith, c.requires.object, ap length c.self.invariant.objects_are, ap (λ o. length (objects o)) c.self.view_is)

pub returns-clause-class : goal.returns-clause-class
returns-clause-class c d =
    ap (λ (x : Object). x.class) (c.index.ensures ∙ any_item c.self.inside.objects.items c.args.object c.index.result.now d (within c)) ∙ ap (λ xs. (get_or xs c.args.object d).class) (c.self.invariant.objects_are ∙ ap objects c.self.view_is)

pub returns-clause-there : goal.returns-clause-there
returns-clause-there c =
    let x = c.index.result.now in
    let there = c.self.invariant.classes _ (Contains-get_or c.self.inside.objects.items c.args.object x (within c)) in
    omega (arith, there, ap (λ (y : Object). y.class) c.index.ensures, ap (λ (o : Outline). length o.classes) c.self.view_is)
