use Rattle.std.proofs.Common.{length, ap, ◌∙◌, arith}
use Rattle.class_table.specs.Ancestry.{derives}
use Rattle.object_alloc.specs.Paths.{owner_in, is_inside}
use Rattle.object_alloc.specs.Walk.{objects}
use Rattle.object_alloc.proofs.Asked.{owners_there}
use Rattle.object_alloc.proofs.objects.Objects.inside.Goals as goal

pub is_in-requires : goal.is_in-requires
is_in-requires c =
    let same = c.deref.ensures.value ∙ c.self.invariant.objects_are in
    record {
      owners = owners_there c.self.inside.table.now c.deref.result.now same;
      object = omega (arith, c.requires.object, ap length same, ap (λ o. length (objects o)) c.self.view_is);
    }

pub returns : goal.returns
returns c =
    let same = c.deref.ensures.value ∙ c.self.invariant.objects_are in
    record { inside = c.is_in.ensures.inside ∙ ap (λ xs. derives (owner_in xs) (length xs) c.args.object c.args.whole) same ∙ ap (λ o. is_inside o c.args.object c.args.whole) c.self.view_is }
