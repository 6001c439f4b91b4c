use Rattle.pack_prop.specs.Sources.{with_part}
use Rattle.pack_prop.specs.LoadSteps.{AreOverfull}
use Rattle.pack_prop.proofs.overfull.say_load.Given as goal

abbrev pub invariant-loop-m : goal.invariant-loop-m
invariant-loop-m l = AreOverfull l.at.value l.tried.items.now l.tried.domains.now (with_part l.tried.boxes.now l.tried.x l.tried.part.now) l.m l.left.value l.literals.items
