use Rattle.std.proofs.Common.{length, sym, ap, ◌∙◌, subst, arith}
use Rattle.std.specs.Prelude.{slice_index_or}
use Rattle.class_table.specs.Sound.{IsSound}
use Rattle.object_alloc.specs.Parts.{IsPart, HasPart}
use Rattle.object_alloc.specs.Walk.{objects}
use Rattle.object_alloc.proofs.PartLaws.{parts_there}
use Rattle.object_alloc.proofs.objects.Objects.part.Goals as goal

pub part_at-requires : goal.part_at-requires
part_at-requires c =
    let o = c.args.self.now in
    let same = c.deref.ensures.value ∙ c.self.invariant.objects_are ∙ ap objects c.self.view_is in
    let sound = subst IsSound c.self.view_is c.self.invariant.sound in
    record {
      part = subst (λ xs. HasPart xs c.args.owner c.args.k c.args.element) (sym same) (parts_there o sound c.args.owner c.args.k c.args.element c.requires.owner c.requires.attribute c.requires.element);
      few = omega (arith, c.self.invariant.limits.objects, ap length c.self.invariant.objects_are, ap length c.deref.ensures.value);
    }

pub returns : goal.returns
returns c =
    let same = c.deref.ensures.value ∙ c.self.invariant.objects_are ∙ ap objects c.self.view_is in
    record {
      there = omega (arith, c.part_at.ensures.there, ap length same);
      part = λ d. subst (λ xs. IsPart c.args.owner c.args.k c.args.element (slice_index_or xs c.part_at.result d)) same (c.part_at.ensures.part d);
    }
