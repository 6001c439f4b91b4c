use Rattle.std.proofs.Common.{ℕ, List, ◌++◌, ◌∷◌, [], ap, ◌∙◌}
use Rattle.indexmap.specs.IndexMap.{keys}
use Rattle.identity_forms.proofs.GroupLaws.{taken_more}
use Rattle.identity_forms.proofs.groups.objects_of.Goals as goal

pub loop-i-preserved : goal.loop-i-preserved
loop-i-preserved c =
    c.in_ok-push.ensures.items ∙ ap (λ (z : List ℕ). z ++ c.object_at.result ∷ []) c.loop-i.invariant ∙ taken_more (keys c.args.groups.now) c.loop-i.i c.object_at.result c.object_at.ensures
