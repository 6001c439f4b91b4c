use Rattle.std.proofs.Common.{ℕ, ◌+◌, ◌≤◌, ◌++◌, List, length}
use Rattle.log_check.specs.Progress.{IsRight}
use Rattle.log_check.specs.Fed.{HasTaken, left_of}
use Rattle.log_check.proofs.Feeding.{HasGone}
use Rattle.log_check.proofs.intake.Intake.take.Given as goal

abbrev pub invariant-loop-part : goal.invariant-loop-part
invariant-loop-part l = record {
  right : IsRight l.g l.self.progress;
  few : l.self.count + length l.left ≤ l.initial.self.count + length l.piece;
  kept : l.self.count + length l.self.rest.items + length l.left ≤ l.initial.self.count + length l.initial.self.rest.items + length l.piece;
  taken : (bytes : List ℕ) → HasTaken l.g bytes (left_of l.initial.self) → HasGone l.g (bytes ++ l.piece) l.left (left_of l.self);
}

abbrev pub decreases-loop-part : goal.decreases-loop-part
decreases-loop-part l = length l.left
