use Rattle.std.proofs.Common.{◌≡◌, false, drop, option_map}
use Rattle.std.specs.List.{All}
use Rattle.serde_json.specs.View.{view}
use Rattle.view_steps.specs.Runs.{may_halt}
use Rattle.view_steps.proofs.run.first_halt.Given as goal

-- where none of what is left may go, none may
abbrev pub invariant-loop-index : goal.invariant-loop-index
invariant-loop-index l =
    All (λ m. may_halt l.run.rooms.entries (option_map (λ v. view v.now) l.stop) m ≡ false) (drop l.index l.run.left.items)
    → All (λ m. may_halt l.run.rooms.entries (option_map (λ v. view v.now) l.stop) m ≡ false) l.run.left.items
