use Rattle.std.proofs.Common.{◌≡◌, map, take}
use Rattle.ground_form.specs.Kinds.{kind_of}
use Rattle.prop_queue.specs.Urgencies.{urgency_of}
use Rattle.prop_queue.proofs.urgency.urgencies_of.Given as goal

abbrev pub invariant-loop-con : goal.invariant-loop-con
invariant-loop-con l =
    l.urgencies.items ≡ map (λ con. urgency_of (kind_of con)) (take l.con-index l.cons)
