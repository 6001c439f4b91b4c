use Rattle.std.proofs.Common.{ap, ◌∙◌}
use Rattle.object_alloc.specs.Walk.{objects}
use Rattle.conf_eval.specs.declared.value.Value.TheVariants.{Objects}
use Rattle.conf_eval.proofs.ListingLaws.{extent_held}
use Rattle.conf_eval.proofs.evaluate.class_at.Goals as goal

pub returns : goal.returns
returns c =
    let o = c.args.scene.now.objects.now in
    record { value = ap (λ xs. Objects xs) (c.of.ensures.items ∙ c.in_ok-numbers.ensures.members ∙ extent_held o.classes c.args.class 0 (objects o)) }
