use Rattle.std.proofs.Common.{◌+◌, ◌*◌}
use Rattle.std.specs.Option.{option_map_or}
use Rattle.object_alloc.proofs.paths.+path.Given as goal

abbrev pub decreases-push_path : goal.decreases-push_path
decreases-push_path l = 2 * l.n + 1

abbrev pub decreases-push_owner : goal.decreases-push_owner
decreases-push_owner l = option_map_or (λ p. 2 * p + 2) l.owner 0
