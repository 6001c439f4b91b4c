use Rattle.std.proofs.Common.{◌<◌, length, sym, ap, ◌∙◌, subst, arith}
use Rattle.std.specs.Prelude.{IfSome, slice_index_or}
use Rattle.object_alloc.specs.Variables.{class_in}
use Rattle.object_alloc.proofs.Asked.{class_there, variables_are, owner_there}
use Rattle.object_alloc.proofs.objects.Objects.shape.Goals as goal

pub class_of-requires : goal.class_of-requires
class_of-requires c = record { owner = owner_there c.self.inside.table.now c.args.self.now c.deref.result.now c.args.owner c.self.view_is (c.deref.ensures.value ∙ c.self.invariant.objects_are) c.requires.owner }

pub shape_at-requires-clause-class : goal.shape_at-requires-clause-class
shape_at-requires-clause-class c =
    let there = owner_there c.self.inside.table.now c.args.self.now c.self.inside.objects.items c.args.owner c.self.view_is c.self.invariant.objects_are c.requires.owner in
    subst (λ x. IfSome x (λ n. n < length c.self.inside.table.now.classes)) (sym (c.class_of.ensures.class ∙ ap (λ xs. class_in xs c.args.owner) c.deref.ensures.value)) (class_there (length c.self.inside.table.now.classes) c.self.inside.objects.items c.args.owner c.self.invariant.classes there)

pub shape_at-requires-clause-variable : goal.shape_at-requires-clause-variable
shape_at-requires-clause-variable c =
    let same = variables_are c.self.inside.table.now c.args.self.now c.deref.result.now c.args.owner c.class_of.result c.self.view_is (c.deref.ensures.value ∙ c.self.invariant.objects_are) c.class_of.ensures.class in
    omega (arith, c.requires.attribute, ap length same)

pub returns : goal.returns
returns c =
    let same = variables_are c.self.inside.table.now c.args.self.now c.deref.result.now c.args.owner c.class_of.result c.self.view_is (c.deref.ensures.value ∙ c.self.invariant.objects_are) c.class_of.ensures.class in
    record { shape = λ d. c.shape_at.ensures.shape d ∙ ap (λ vs. (slice_index_or vs c.args.k d).shape) same }
