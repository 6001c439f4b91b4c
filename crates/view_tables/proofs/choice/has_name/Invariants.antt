use Rattle.std.proofs.Common.{◌≡◌, drop, map}
use Rattle.view_leaves.specs.Views.{step_seen}
use Rattle.view_tables.specs.Chosen.{has_name}
use Rattle.view_tables.proofs.choice.has_name.Given as goal

-- what is left decides
abbrev pub invariant-loop-name : goal.invariant-loop-name
invariant-loop-name l =
    has_name (map (λ w. w.now) (drop l.name-index l.names)) (map step_seen l.path)
    ≡ has_name (map (λ w. w.now) l.names) (map step_seen l.path)
