use Rattle.std.proofs.Common.{pos}
use Rattle.pack_prop.specs.Sources.{with_part}
use Rattle.pack_prop.specs.TotalSteps.{AreTotalled}
use Rattle.pack_prop.proofs.total.seat_all.Given as goal

abbrev pub invariant-loop-k : goal.invariant-loop-k
invariant-loop-k l = AreTotalled l.tried.items.now l.tried.domains.now (with_part l.tried.boxes.now l.tried.x l.tried.part.now) l.k 0 l.seated.items (pos 0) l.literals.items
