use Rattle.reference_forms.proofs.CandidateLaws.{held_step}
use Rattle.reference_forms.proofs.candidates.held_of.Goals as goal

pub loop-object-preserved : goal.loop-object-preserved
loop-object-preserved c = held_step c.args.set.now c.args.objects.now c.loop-object.object-index 0 _ _ _ c.loop-object-test.true c.in_ok-push_held.ensures c.loop-object.invariant
