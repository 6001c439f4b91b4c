use Rattle.std.proofs.Common.{◌≡◌, drop}
use Rattle.serde_json.specs.View.{items_view}
use Rattle.config_json.specs.Growing.{items_append}
use Rattle.config_json.specs.Tree.{paths_data}
use Rattle.config_json.proofs.config.path_values.Given as goal

-- with the objects that are left they are the paths of all
abbrev pub invariant-loop-n : goal.invariant-loop-n
invariant-loop-n l = items_append (items_view l.paths.items) (paths_data l.objects (drop l.n-index l.numbers)) ≡ paths_data l.objects l.numbers
