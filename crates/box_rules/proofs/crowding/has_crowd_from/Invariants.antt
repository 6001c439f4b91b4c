use Rattle.std.proofs.Common.{◌≡◌, ◌<◌, ◌≤◌, ℕ, suc}
use Rattle.box_rules.specs.Crowding.{total}
use Rattle.box_rules.proofs.crowding.has_crowd_from.Given as goal

abbrev pub invariant-loop-d : goal.invariant-loop-d
invariant-loop-d l = record {
  sum : l.sum ≡ total l.d l.slots;
  few : (e : ℕ) → e < l.d → total (suc e) l.slots ≤ suc e;
}
