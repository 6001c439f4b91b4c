use Rattle.std.proofs.Common.{◌≡◌, ◌++◌, Some, map, drop}
use Rattle.std.specs.Prelude.{filter_map}
use Rattle.object_alloc.specs.Cells.{cells}
use Rattle.config_json.specs.Marked.{element_at, marked}
use Rattle.config_json.proofs.leaves.push_members.Given as goal

-- with the cells that are left they are the hints for all
abbrev pub invariant-loop-i : goal.invariant-loop-i
invariant-loop-i l =
    l.hints.items ++ map Some (marked (filter_map (element_at (cells l.objects)) (drop l.i-index l.own)) l.marks)
    ≡ l.initial.hints.items ++ map Some (marked (filter_map (element_at (cells l.objects)) l.own) l.marks)
