use Rattle.std.proofs.Common.{◌≡◌, drop}
use Rattle.std.specs.List.{list_any}
use Rattle.site_model.specs.Goals.{is_moves}
use Rattle.site_model.proofs.goals.has_moves.Given as goal

-- what is left decides
abbrev pub invariant-loop-kind : goal.invariant-loop-kind
invariant-loop-kind l = list_any is_moves (drop l.kind-index l.kinds) ≡ list_any is_moves l.kinds
