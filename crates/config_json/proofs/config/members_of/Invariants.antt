use Rattle.std.proofs.Common.{◌≡◌, ◌++◌, drop}
use Rattle.std.specs.Prelude.{filter_map}
use Rattle.object_alloc.specs.Cells.{cells}
use Rattle.object_alloc.specs.Members.{member_at}
use Rattle.config_json.proofs.config.members_of.Given as goal

-- with the cells that are left they are the members of all
abbrev pub invariant-loop-i : goal.invariant-loop-i
invariant-loop-i l = l.members.items ++ filter_map (member_at (cells l.objects) l.values) (drop l.i-index l.own) ≡ filter_map (member_at (cells l.objects) l.values) l.own
