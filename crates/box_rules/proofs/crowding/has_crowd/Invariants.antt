use Rattle.std.proofs.Common.{◌≡◌, List, ℕ, drop}
use Rattle.signed_clause.specs.Clauses.{Boxes}
use Rattle.box_rules.specs.Refuted.{some_crowded}
use Rattle.box_rules.specs.Crowding.{ends_of, AreInOrder}
use Rattle.box_rules.proofs.crowding.has_crowd.Given as goal

abbrev pub invariant-loop-p : goal.invariant-loop-p
invariant-loop-p l =
    (xs : List ℕ) → (boxes : Boxes) → l.ends ≡ ends_of xs boxes → AreInOrder xs boxes →
    some_crowded (drop l.p-index xs) xs boxes ≡ some_crowded xs xs boxes
